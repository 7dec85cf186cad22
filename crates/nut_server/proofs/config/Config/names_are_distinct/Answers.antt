use Rattle.std.proofs.Common.{subst, sym}
use Rattle.std.specs.List.{IsDistinct}
use Rattle.std.specs.Str.{bytes_eq}
use Rattle.nut_server_spec.specs.laws.Reloads.{AreNamedApart}
use Rattle.nut_server.proofs.FromFiles.{shown-names}
use Rattle.nut_server.proofs.config.Config.names_are_distinct.Goals as goal

pub returns : goal.returns
returns c = subst (λ (k : _). AreNamedApart k.upses) c.self.view_is (subst (IsDistinct bytes_eq) (sym (shown-names c.self.inside.ups.ups.by_name.entries)) c.names_are_distinct.ensures)
