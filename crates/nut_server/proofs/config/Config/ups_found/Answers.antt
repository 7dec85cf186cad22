use Rattle.std.proofs.Common.{sym, ◌∙◌}
use Rattle.std.specs.Str.{bytes_eq}
use Rattle.nut_server.proofs.FromFiles.{there-found, none-found}
use Rattle.nut_server.proofs.config.Config.ups_found.Goals as goal

pub returns-in-Some : goal.returns-in-Some
returns-in-Some c = λ name found. c.ups_at.ensures ∙ there-found (λ u. bytes_eq u.name name) c.args.self.now.upses c.in-Some.u (sym c.in-Some.is ∙ found)

pub returns-in-None : goal.returns-in-None
returns-in-None c = λ name found. none-found (λ u. bytes_eq u.name name) c.args.self.now.upses (sym c.in-None.is ∙ found)
