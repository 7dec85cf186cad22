use Rattle.std.proofs.Common.{rules}
use Rattle.nut_proto.specs.Lines.{line}
use Rattle.nut_proto.proofs.reply.type_line.Goals as goal

pub returns-else-writable : goal.returns-else-writable
unfolding line
returns-else-writable c = search rules
