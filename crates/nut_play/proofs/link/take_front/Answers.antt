use Rattle.std.proofs.Common.{arith}
use Rattle.std.proofs.lemmas.Grind.{common_steps}
use Rattle.nut_play.proofs.link.take_front.Goals as goal

pub returns-clause-pipe : goal.returns-clause-pipe
returns-clause-pipe c = grind (arith, common_steps)
