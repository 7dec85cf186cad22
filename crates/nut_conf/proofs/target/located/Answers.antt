use Rattle.std.proofs.Common.{arith}
use Rattle.std.proofs.lemmas.Grind.{common_steps}
use Rattle.nut_conf.proofs.target.located.Goals as goal

pub returns-in_ok-host-in-None : goal.returns-in_ok-host-in-None
returns-in_ok-host-in-None c = grind (arith, common_steps)
