use Rattle.std.proofs.Common.{arith}
use Rattle.std.proofs.lemmas.Grind.{common_steps}
use Rattle.nut_play.proofs.fleet.seats_of.Goals as goal

pub loop-config-preserved : goal.loop-config-preserved
loop-config-preserved c = grind (arith, common_steps)
