use Rattle.std.proofs.Common.{◌≡◌, sym, subst}
use Rattle.std.specs.Prelude.{slice_set}
use Rattle.nut_state.specs.Sorted.{IsFound, IsFree}
use Rattle.nut_state.specs.laws.Holds.{IsTable}
use Rattle.nut_state.specs.Step.{after}
use Rattle.nut_state.specs.Change.{del_enum}
use Rattle.nut_state.specs.contracts.state.UpsState.{the_view}
use Rattle.nut_state.proofs.TableLemmas.{IsTable-after}
use Rattle.nut_state.proofs.ChangeLemmas.{name_of, del_enum_found, del_enum_absent}
use Rattle.nut_state.proofs.state.UpsState.delete_enum.Goals as goal

edited : (c : goal.After-self-1)
    → record (the_view c.self.inside) { variables = slice_set c.self.inside.variables.items c.in-Ok.place c.remove_enum.new.self }
    ≡ after (the_view c.self.inside) (del_enum c.args.name.now c.args.value.now)
edited c =
    let found : IsFound name_of c.args.name.now c.self.inside.variables.items c.in-Ok.place = rw c.deref.ensures.value at c.in-Ok.ensures in
    del_enum_found (the_view c.self.inside) c.args.name.now c.in-Ok.place c.index_mut.result.now found c.index_mut.ensures.value c.args.value.now
    c.remove_enum.new.self c.remove_enum.ensures

pub invariant_of-self : goal.invariant_of-self
invariant_of-self c =
    subst IsTable (sym (edited c)) (IsTable-after (the_view c.self.inside) (del_enum c.args.name.now c.args.value.now) c.self.invariant)

pub returns-in-Ok : goal.returns-in-Ok
returns-in-Ok c = rw (← c.self.view_is) (edited c)

pub returns-in_default : goal.returns-in_default
returns-in_default c =
    let free : IsFree name_of c.args.name.now c.self.inside.variables.items c.in_default.field-0 = rw c.deref.ensures.value at c.in_default.ensures in
    rw (← c.self.view_is) (del_enum_absent (the_view c.self.inside) c.args.name.now free.is c.args.value.now)
