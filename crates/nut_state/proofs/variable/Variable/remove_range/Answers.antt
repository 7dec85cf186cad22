use Rattle.std.proofs.Common.{◌≡◌, not, rules, refl}
use Rattle.std.specs.Prelude.{filter}
use Rattle.nut_state.specs.Attribute.{same_range}
use Rattle.std.proofs.lemmas.Fn.{filter_same}
use Rattle.nut_state.proofs.variable.Variable.remove_range.Goals as goal

pub returns : goal.returns
returns c =
    let kept : c.retain.new.self.items ≡ filter (λ listed. not (same_range listed c.args.range)) c.self.inside.ranges.items =
    filter_same _ (λ listed. not (same_range listed c.args.range)) _ (λ x b q k. search rules) _ _ c.retain.ensures.filtered in
    rw (← c.self.view_is, kept) refl
