use Rattle.std.proofs.Common.{[], ◌++◌, sym, ap, ◌∙◌}
use Rattle.std.specs.Option.{option_map_or}
use Rattle.std.proofs.lemmas.List.{append-nil}
use Rattle.nut_dummy.specs.Telling.{text, limits_of}
use Rattle.nut_dummy.proofs.TextLemmas.{text_nil}
use Rattle.nut_dummy.proofs.variable.put_limits.Goals as goal

pub returns-in_default : goal.returns-in_default
returns-in_default c =
    sym (ap (λ ms. c.args.out.now.items ++ text ms) (ap (λ w. option_map_or limits_of w []) (sym c.of.ensures ∙ c.in_default.is))
    ∙ ap (λ t. c.args.out.now.items ++ t) text_nil ∙ append-nil c.args.out.now.items)
