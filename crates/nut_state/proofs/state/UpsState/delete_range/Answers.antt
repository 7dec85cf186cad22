use Rattle.std.proofs.Common.{◌≡◌, sym, subst, ap, ◌∙◌}
use Rattle.std.specs.Prelude.{slice_set}
use Rattle.nut_state.specs.Sorted.{IsFound, IsFree}
use Rattle.nut_state.specs.laws.Holds.{IsTable}
use Rattle.nut_state.specs.contracts.state.UpsState.{the_view}
use Rattle.nut_state.specs.Step.{after}
use Rattle.nut_state.specs.Change.{del_range}
use Rattle.nut_state.proofs.TableLemmas.{IsTable-after}
use Rattle.nut_state.proofs.ChangeLemmas.{name_of, del_range_found, del_range_absent, del_range_unread}
use Rattle.nut_state.proofs.state.UpsState.delete_range.Goals as goal

pub returns-in_default : goal.returns-in_default
returns-in_default c = rw c.in_default.is (del_range_unread c.args.self.now c.args.name.now)

edited : (c : goal.After-self-1)
    → record (the_view c.self.inside) { variables = slice_set c.self.inside.variables.items c.in-Ok.place c.remove_range.new.self }
    ≡ after (the_view c.self.inside) (del_range c.args.name.now c.args.range)
edited c =
    let found : IsFound name_of c.args.name.now c.self.inside.variables.items c.in-Ok.place = rw c.deref.ensures.value at c.in-Ok.ensures in
    del_range_found (the_view c.self.inside) c.args.name.now c.in-Ok.place c.index_mut.result.now found c.index_mut.ensures.value c.in-Some.range
    c.remove_range.new.self c.remove_range.ensures
    ∙ ap (λ o. after (the_view c.self.inside) (del_range c.args.name.now o)) (sym c.in-Some.is)

pub invariant_of-self : goal.invariant_of-self
invariant_of-self c =
    subst IsTable (sym (edited c)) (IsTable-after (the_view c.self.inside) (del_range c.args.name.now c.args.range) c.self.invariant)

pub returns-in-Ok : goal.returns-in-Ok
returns-in-Ok c = rw (← c.self.view_is) (edited c)

pub returns-in_default-place_of_variable : goal.returns-in_default-place_of_variable
returns-in_default-place_of_variable c =
    let free : IsFree name_of c.args.name.now c.self.inside.variables.items c.in_default-place_of_variable.field-0 =
    rw c.deref.ensures.value at c.in_default-place_of_variable.ensures in
    rw (c.in-Some.is, ← c.self.view_is) (del_range_absent (the_view c.self.inside) c.args.name.now free.is c.in-Some.range)
