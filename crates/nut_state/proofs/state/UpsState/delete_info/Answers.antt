use Rattle.std.proofs.Common.{◌≡◌, sym, subst}
use Rattle.nut_state.specs.Sorted.{IsFound, IsFree}
use Rattle.nut_state.specs.laws.Holds.{IsTable}
use Rattle.nut_state.specs.Step.{after}
use Rattle.nut_state.specs.Change.{del_info}
use Rattle.nut_state.specs.contracts.state.UpsState.{the_view}
use Rattle.nut_state.proofs.TableLemmas.{IsTable-after}
use Rattle.nut_state.proofs.ChangeLemmas.{name_of, del_info_found, del_info_absent}
use Rattle.nut_state.proofs.state.UpsState.delete_info.Goals as goal

removed : (c : goal.After-drop-remove-in-Ok)
    → record (the_view c.self.inside) { variables = c.remove.new.self.items } ≡ after (the_view c.self.inside) (del_info c.args.name.now)
removed c =
    let found : IsFound name_of c.args.name.now c.self.inside.variables.items c.in-Ok.place = rw c.deref.ensures.value at c.in-Ok.ensures in
    del_info_found (the_view c.self.inside) c.args.name.now c.in-Ok.place c.remove.result found c.remove.ensures.value
    c.remove.new.self.items c.remove.ensures.items

pub invariant_of-self : goal.invariant_of-self
invariant_of-self c =
    subst IsTable (sym (removed c)) (IsTable-after (the_view c.self.inside) (del_info c.args.name.now) c.self.invariant)

pub returns-in-Ok : goal.returns-in-Ok
returns-in-Ok c = rw (← c.self.view_is) (removed c)

pub returns-in_default : goal.returns-in_default
returns-in_default c =
    let free : IsFree name_of c.args.name.now c.self.inside.variables.items c.in_default.field-0 = rw c.deref.ensures.value at c.in_default.ensures in
    rw (← c.self.view_is) (del_info_absent (the_view c.self.inside) c.args.name.now free.is)
