use Rattle.std.proofs.Common.{◌≡◌, Some, map, slice_get, sym, ap, subst, ◌∙◌}
use Rattle.std.proofs.lemmas.Slice.Eq.{bytes_eq-Decides}
use Rattle.nut_server_spec.specs.Configuration.{Configuration}
use Rattle.nut_server.proofs.FromFiles.{shown-names}
use Rattle.nut_server.proofs.OnlyNamed.{number_at}
use Rattle.nut_server.proofs.config.Config.find_likely_ups.Goals as goal

pub returns : goal.returns
returns c =
    let same : c.as_bytes.result.now ≡ c.args.name.now = (bytes_eq-Decides c.as_bytes.result.now c.args.name.now).0 (sym c.eq.ensures ∙ c.if-eq.true) in
    let there : Some c.args.name.now ≡ slice_get (map (λ u. u.name) c.args.self.now.upses) c.args.likely =
    subst (λ (k : Configuration). Some c.args.name.now ≡ slice_get (map (λ u. u.name) k.upses) c.args.likely) c.self.view_is
    (ap Some (sym same ∙ c.as_bytes.ensures.value) ∙ c.in-Some.ensures ∙ ap (λ names. slice_get names c.args.likely) (sym (shown-names c.self.inside.ups.ups.by_name.entries))) in
    number_at c.args.self.now.upses c.args.likely c.args.name.now c.names_are_distinct.ensures there
