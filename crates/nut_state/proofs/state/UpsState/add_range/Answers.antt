use Rattle.std.proofs.Common.{◌≡◌, true, Some, sym, subst, ap, ◌∙◌}
use Rattle.std.specs.Prelude.{slice_set}
use Rattle.nut_words.proofs.Written.{at_err}
use Rattle.nut_state.specs.Sorted.{IsFound, IsFree}
use Rattle.nut_state.specs.laws.Holds.{IsTable}
use Rattle.nut_state.specs.contracts.state.UpsState.{the_view}
use Rattle.nut_state.specs.Step.{after, adds}
use Rattle.nut_state.specs.Change.{add_range}
use Rattle.nut_state.proofs.TableLemmas.{IsTable-after}
use Rattle.nut_state.proofs.ChangeLemmas.{name_of, put_back, add_range_found, add_range_full, add_range_absent, add_range_adds, add_range_unread}
use Rattle.nut_state.proofs.state.UpsState.add_range.Goals as goal

pub returns-in_default-clause-ok : goal.returns-in_default-clause-ok
returns-in_default-clause-ok c = rw c.in_default.is (add_range_unread c.args.self.now c.args.name.now)

pub returns-in_default-place_of_variable-clause-ok : goal.returns-in_default-place_of_variable-clause-ok
returns-in_default-place_of_variable-clause-ok c =
    let free : IsFree name_of c.args.name.now c.self.inside.variables.items c.in_default-place_of_variable.field-0 = rw c.deref.ensures.value at c.in_default-place_of_variable.ensures in
    rw (c.in-Some.is, ← c.self.view_is) (add_range_absent (the_view c.self.inside) c.args.name.now free.is c.in-Some.range)

pub returns-then-not-takes_range-clause-ok : goal.returns-then-not-takes_range-clause-ok
returns-then-not-takes_range-clause-ok c =
    let found : IsFound name_of c.args.name.now c.self.inside.variables.items c.in-Ok.place = rw c.deref.ensures.value at c.in-Ok.ensures in
    rw (c.in-Some.is, ← c.self.view_is) (add_range_full (the_view c.self.inside) c.args.name.now c.in-Ok.place c.index_mut-variable.result.now found
    c.index_mut-variable.ensures.value c.in-Some.range (sym c.takes_range.ensures ∙ c.if-not-takes_range.true))

pub returns-in_err-add_range-clause-succeeds : goal.returns-in_err-add_range-clause-succeeds
returns-in_err-add_range-clause-succeeds c =
    let found : IsFound name_of c.args.name.now c.self.inside.variables.items c.in-Ok.place = rw c.deref.ensures.value at c.in-Ok.ensures in
    let grows : adds (the_view c.self.inside) (add_range c.args.name.now (Some c.in-Some.range)) ≡ true =
    add_range_adds (the_view c.self.inside) c.args.name.now c.in-Ok.place c.index_mut-variable.result.now found
    c.index_mut-variable.ensures.value c.in-Some.range (sym c.takes_range.ensures ∙ c.if-not-takes_range.false) in
    rw (c.in-Some.is, ← c.self.view_is) (λ none. cc (sym grows ∙ none))

added : (c : goal.In_ok-add_range)
    → record (the_view c.self.inside) { variables = slice_set c.self.inside.variables.items c.in-Ok.place c.add_range.new.self }
    ≡ after (the_view c.self.inside) (add_range c.args.name.now c.args.range)
added c =
    let found : IsFound name_of c.args.name.now c.self.inside.variables.items c.in-Ok.place = rw c.deref.ensures.value at c.in-Ok.ensures in
    add_range_found (the_view c.self.inside) c.args.name.now c.in-Ok.place c.index_mut-variable.result.now found c.index_mut-variable.ensures.value c.in-Some.range
    c.add_range.new.self (sym c.takes_range.ensures ∙ c.if-not-takes_range.false) c.in_ok-add_range.ensures.ok
    ∙ ap (λ o. after (the_view c.self.inside) (add_range c.args.name.now o)) (sym c.in-Some.is)

pub invariant_of-self-2 : goal.invariant_of-self-2
invariant_of-self-2 c =
    subst IsTable (sym (added c)) (IsTable-after (the_view c.self.inside) (add_range c.args.name.now c.args.range) c.self.invariant)

pub returns-clause-ok : goal.returns-clause-ok
returns-clause-ok c = rw (← c.self.view_is) (added c)

pub returns-in_err-add_range-clause-err : goal.returns-in_err-add_range-clause-err
returns-in_err-add_range-clause-err c =
    let found : IsFound name_of c.args.name.now c.self.inside.variables.items c.in-Ok.place = rw c.deref.ensures.value at c.in-Ok.ensures in
    at_err c.from_residual.result
    (put_back (the_view c.self.inside) c.args.name.now c.in-Ok.place c.index_mut-variable.result.now found c.index_mut-variable.ensures.value
    c.add_range.new.self c.in_err-add_range.ensures.err ∙ c.self.view_is)
