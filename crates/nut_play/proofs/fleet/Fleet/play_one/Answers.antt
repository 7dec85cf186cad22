use Rattle.std.proofs.Common.{arith}
use Rattle.std.proofs.lemmas.Grind.{common_steps}
use Rattle.nut_play.proofs.fleet.Fleet.play_one.Goals as goal

pub returns-clause-fleet : goal.returns-clause-fleet
returns-clause-fleet c = grind (arith, common_steps)

pub returns-clause-log : goal.returns-clause-log
returns-clause-log c = grind (arith, common_steps)

pub returns-clause-lack : goal.returns-clause-lack
returns-clause-lack c = grind (arith, common_steps)
