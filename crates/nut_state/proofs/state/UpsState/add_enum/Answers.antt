use Rattle.std.proofs.Common.{◌≡◌, true, sym, subst, ◌∙◌}
use Rattle.std.specs.Prelude.{slice_set}
use Rattle.nut_words.proofs.Written.{at_err}
use Rattle.nut_state.specs.Sorted.{IsFound, IsFree}
use Rattle.nut_state.specs.laws.Holds.{IsTable}
use Rattle.nut_state.specs.contracts.state.UpsState.{the_view}
use Rattle.nut_state.specs.Step.{after, adds}
use Rattle.nut_state.specs.Change.{add_enum}
use Rattle.nut_state.proofs.TableLemmas.{IsTable-after}
use Rattle.nut_state.proofs.ChangeLemmas.{name_of, put_back, add_enum_found, add_enum_full, add_enum_absent, add_enum_adds}
use Rattle.nut_state.proofs.state.UpsState.add_enum.Goals as goal

pub returns-in_default-clause-ok : goal.returns-in_default-clause-ok
returns-in_default-clause-ok c =
    let free : IsFree name_of c.args.name.now c.self.inside.variables.items c.in_default.field-0 = rw c.deref.ensures.value at c.in_default.ensures in
    rw (← c.self.view_is) (add_enum_absent (the_view c.self.inside) c.args.name.now free.is c.args.value.now)

pub returns-then-not-takes_enum-clause-ok : goal.returns-then-not-takes_enum-clause-ok
returns-then-not-takes_enum-clause-ok c =
    let found : IsFound name_of c.args.name.now c.self.inside.variables.items c.in-Ok.place = rw c.deref.ensures.value at c.in-Ok.ensures in
    rw (← c.self.view_is) (add_enum_full (the_view c.self.inside) c.args.name.now c.in-Ok.place c.index_mut-variable.result.now found
    c.index_mut-variable.ensures.value c.args.value.now (sym c.takes_enum.ensures ∙ c.if-not-takes_enum.true))

pub returns-in_err-add_enum-clause-succeeds : goal.returns-in_err-add_enum-clause-succeeds
returns-in_err-add_enum-clause-succeeds c =
    let found : IsFound name_of c.args.name.now c.self.inside.variables.items c.in-Ok.place = rw c.deref.ensures.value at c.in-Ok.ensures in
    let grows : adds (the_view c.self.inside) (add_enum c.args.name.now c.args.value.now) ≡ true =
    add_enum_adds (the_view c.self.inside) c.args.name.now c.in-Ok.place c.index_mut-variable.result.now found
    c.index_mut-variable.ensures.value c.args.value.now (sym c.takes_enum.ensures ∙ c.if-not-takes_enum.false) in
    rw (← c.self.view_is) (λ none. cc (sym grows ∙ none))

added : (c : goal.In_ok-add_enum)
    → record (the_view c.self.inside) { variables = slice_set c.self.inside.variables.items c.in-Ok.place c.add_enum.new.self }
    ≡ after (the_view c.self.inside) (add_enum c.args.name.now c.args.value.now)
added c =
    let found : IsFound name_of c.args.name.now c.self.inside.variables.items c.in-Ok.place = rw c.deref.ensures.value at c.in-Ok.ensures in
    add_enum_found (the_view c.self.inside) c.args.name.now c.in-Ok.place c.index_mut-variable.result.now found c.index_mut-variable.ensures.value c.args.value.now
    c.add_enum.new.self (sym c.takes_enum.ensures ∙ c.if-not-takes_enum.false) c.in_ok-add_enum.ensures.ok

pub invariant_of-self-2 : goal.invariant_of-self-2
invariant_of-self-2 c =
    subst IsTable (sym (added c)) (IsTable-after (the_view c.self.inside) (add_enum c.args.name.now c.args.value.now) c.self.invariant)

pub returns-clause-ok : goal.returns-clause-ok
returns-clause-ok c = rw (← c.self.view_is) (added c)

pub returns-in_err-add_enum-clause-err : goal.returns-in_err-add_enum-clause-err
returns-in_err-add_enum-clause-err c =
    let found : IsFound name_of c.args.name.now c.self.inside.variables.items c.in-Ok.place = rw c.deref.ensures.value at c.in-Ok.ensures in
    at_err c.from_residual.result
    (put_back (the_view c.self.inside) c.args.name.now c.in-Ok.place c.index_mut-variable.result.now found c.index_mut-variable.ensures.value
    c.add_enum.new.self c.in_err-add_enum.ensures.err ∙ c.self.view_is)
