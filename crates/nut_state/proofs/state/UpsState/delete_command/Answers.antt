use Rattle.std.proofs.Common.{◌≡◌, sym, subst}
use Rattle.nut_state.specs.Sorted.{IsFound, IsFree}
use Rattle.nut_state.specs.laws.Holds.{IsTable}
use Rattle.nut_state.specs.Step.{after}
use Rattle.nut_state.specs.Change.{del_command}
use Rattle.nut_state.specs.contracts.state.UpsState.{the_view}
use Rattle.nut_state.proofs.TableLemmas.{IsTable-after}
use Rattle.nut_state.proofs.ChangeLemmas.{itself, del_command_found, del_command_absent}
use Rattle.nut_state.proofs.state.UpsState.delete_command.Goals as goal

removed : (c : goal.After-remove)
    → record (the_view c.self.inside) { commands = c.remove.new.self.items } ≡ after (the_view c.self.inside) (del_command c.args.name.now)
removed c =
    let found : IsFound itself c.args.name.now c.self.inside.commands.items c.in-Ok.place = rw c.deref.ensures.value at c.in-Ok.ensures in
    del_command_found (the_view c.self.inside) c.args.name.now c.in-Ok.place c.remove.new.self.items found c.remove.ensures.items

pub invariant_of-self : goal.invariant_of-self
invariant_of-self c =
    subst IsTable (sym (removed c)) (IsTable-after (the_view c.self.inside) (del_command c.args.name.now) c.self.invariant)

pub returns-in-Ok : goal.returns-in-Ok
returns-in-Ok c = rw (← c.self.view_is) (removed c)

pub returns-in_default : goal.returns-in_default
returns-in_default c =
    let free : IsFree itself c.args.name.now c.self.inside.commands.items c.in_default.field-0 = rw c.deref.ensures.value at c.in_default.ensures in
    rw (← c.self.view_is) (del_command_absent (the_view c.self.inside) c.args.name.now c.in_default.field-0 free)
