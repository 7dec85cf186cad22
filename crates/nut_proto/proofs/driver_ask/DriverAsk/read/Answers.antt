use Rattle.std.proofs.Common.{rules}
use Rattle.nut_proto.specs.DriverAsks.{ask_of}
use Rattle.nut_proto.proofs.driver_ask.DriverAsk.read.Goals as goal

pub returns-then-is_named-2 : goal.returns-then-is_named-2
unfolding ask_of
returns-then-is_named-2 c = search rules
