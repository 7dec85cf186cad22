use Rattle.std.proofs.Common.{sym, ◌∙◌}
use Rattle.nut_state.proofs.SortedLemmas.{found_there, names_equal}
use Rattle.nut_state.proofs.sorted.is_at.Goals as goal

pub returns-in-Some : goal.returns-in-Some
returns-in-Some c = λ equal.
    found_there (λ v. v.name) c.args.name.now c.args.variables.now c.args.place c.in-Some.variable.now c.requires c.in-Some.ensures.lookup.3
    (sym c.name.ensures ∙ names_equal c.name.result.now c.args.name.now c.compare.result c.compare.ensures (sym c.is_eq.ensures ∙ equal))
