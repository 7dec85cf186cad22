use Rattle.std.proofs.Common.{◌≡◌, sym, subst, ap, ◌∙◌}
use Rattle.std.specs.Prelude.{slice_set}
use Rattle.std.proofs.lemmas.Bool.{le-leb, lt-leb}
use Rattle.nut_state.specs.Sorted.{IsFound, IsFree}
use Rattle.nut_state.specs.laws.Holds.{IsTable}
use Rattle.nut_state.specs.contracts.state.UpsState.{the_view}
use Rattle.nut_state.specs.Step.{after}
use Rattle.nut_state.specs.Change.{set_aux}
use Rattle.nut_state.proofs.TableLemmas.{IsTable-after}
use Rattle.nut_state.proofs.ChangeLemmas.{name_of, set_aux_found, set_aux_absent, set_aux_unread, set_aux_long}
use Rattle.nut_state.proofs.state.UpsState.set_aux.Goals as goal

pub returns-in_default : goal.returns-in_default
returns-in_default c = rw c.in_default.is (set_aux_unread c.args.self.now c.args.name.now)

edited : (c : goal.After-self-1)
    → record (the_view c.self.inside) { variables = slice_set c.self.inside.variables.items c.in-Ok.place c.set_aux.new.self }
    ≡ after (the_view c.self.inside) (set_aux c.args.name.now c.args.aux)
edited c =
    let found : IsFound name_of c.args.name.now c.self.inside.variables.items c.in-Ok.place = rw c.deref.ensures.value at c.in-Ok.ensures in
    set_aux_found (the_view c.self.inside) c.args.name.now c.in-Ok.place c.index_mut.result.now found c.index_mut.ensures.value c.in-Some.aux
    c.set_aux.new.self (le-leb _ _ c.if-aux.false) c.set_aux.ensures
    ∙ ap (λ o. after (the_view c.self.inside) (set_aux c.args.name.now o)) (sym c.in-Some.is)

pub invariant_of-self : goal.invariant_of-self
invariant_of-self c =
    subst IsTable (sym (edited c)) (IsTable-after (the_view c.self.inside) (set_aux c.args.name.now c.args.aux) c.self.invariant)

pub returns-in-Ok : goal.returns-in-Ok
returns-in-Ok c = rw (← c.self.view_is) (edited c)

pub returns-in_default-place_of_variable : goal.returns-in_default-place_of_variable
returns-in_default-place_of_variable c =
    let free : IsFree name_of c.args.name.now c.self.inside.variables.items c.in_default-place_of_variable.field-0 =
    rw c.deref.ensures.value at c.in_default-place_of_variable.ensures in
    rw (c.in-Some.is, ← c.self.view_is) (set_aux_absent (the_view c.self.inside) c.args.name.now free.is c.in-Some.aux)

pub returns-then-aux : goal.returns-then-aux
returns-then-aux c = rw c.in-Some.is (set_aux_long c.args.self.now c.args.name.now c.in-Some.aux (lt-leb _ _ c.if-aux.true))
