use Rattle.std.proofs.Common.{refl}
use Rattle.nut_proto.specs.Lines.{line}
use Rattle.nut_dummy.specs.Telling.{text}
use Rattle.nut_dummy.proofs.telling.closing.Goals as goal

pub returns : goal.returns
unfolding text line
returns c = refl
