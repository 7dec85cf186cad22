use Rattle.std.proofs.Common.{arith}
use Rattle.std.proofs.lemmas.List.{length-map}
use Rattle.nut_server.specs.Configured.{user_in}
use Rattle.nut_server.proofs.config.Config.users.Goals as goal

pub returns-clause-few : goal.returns-clause-few
returns-clause-few c = rw (← c.self.view_is) (omega (arith, length-map c.self.inside.users.users.by_name.entries user_in, c.self.inside.users.users.few))
