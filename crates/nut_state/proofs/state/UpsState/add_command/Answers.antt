use Rattle.std.proofs.Common.{◌≡◌, true, length, sym, ◌∙◌, arith}
use Rattle.std.specs.Prelude.{nat_lt}
use Rattle.std.proofs.lemmas.Bool.{and_left, and_right, lt-ltb, le-ltb}
use Rattle.nut_state.specs.Sorted.{IsFound, IsFree}
use Rattle.nut_state.specs.contracts.state.UpsState.{the_view}
use Rattle.nut_state.specs.declared.limits.TheConstants.{COMMANDS_MAX}
use Rattle.nut_state.specs.Text.{is_name}
use Rattle.nut_state.specs.Step.{adds}
use Rattle.nut_state.specs.Change.{add_command}
use Rattle.nut_state.proofs.ChangeLemmas.{itself, commands_kept, add_command_tried, add_command_keeps, add_command_adds, add_command_listed, add_command_refused}
use Rattle.nut_state.proofs.state.UpsState.add_command.Goals as goal
use Rattle.nut_state.proofs.state.UpsState.add_command.Goals.{then-not-is_name-via-then-not-is_name, then-not-is_name-via-else-not-is_name+then-len-ge-COMMANDS_MAX}

pub returns-then-not-is_name-clause-ok : goal.returns-then-not-is_name-clause-ok
returns-then-not-is_name-clause-ok c =
    rw (← c.self.view_is) (add_command_refused (the_view c.self.inside) c.args.name.now
    (elim c.then-not-is_name.branch [
      | then-not-is_name-via-then-not-is_name w ↦ and_left _ _ (sym c.is_name.ensures ∙ w.if-not-is_name.true)
      | then-not-is_name-via-else-not-is_name+then-len-ge-COMMANDS_MAX w ↦
          and_right (is_name c.args.name.now) (nat_lt (length c.self.inside.commands.items) COMMANDS_MAX) (le-ltb _ _ (omega (arith, w.if-len-ge-COMMANDS_MAX.true, w.len.ensures)))
    ]))

pub invariant_of-self : goal.invariant_of-self
invariant_of-self c =
    let none : IsFree itself c.args.name.now c.self.inside.commands.items c.in-Err.place = rw c.deref.ensures.value at c.in-Err.ensures in
    add_command_keeps (the_view c.self.inside) c.args.name.now c.in-Err.place none (sym c.is_name.ensures ∙ c.if-not-is_name.false)
    (lt-ltb _ _ (omega (arith, c.if-len-ge-COMMANDS_MAX.false, c.len.ensures)))
    c.insert_command.result c.insert_command.new.commands.items c.insert_command.ensures c.self.invariant

pub returns-in-Ok-clause-ok : goal.returns-in-Ok-clause-ok
returns-in-Ok-clause-ok c =
    let found : IsFound itself c.args.name.now c.self.inside.commands.items c.in-Ok.field-0 = rw c.deref.ensures.value at c.in-Ok.ensures in
    rw (← c.self.view_is) (add_command_listed (the_view c.self.inside) c.args.name.now c.in-Ok.field-0 found)

pub returns-in-Err-clause-ok : goal.returns-in-Err-clause-ok
returns-in-Err-clause-ok c =
    let none : IsFree itself c.args.name.now c.self.inside.commands.items c.in-Err.place = rw c.deref.ensures.value at c.in-Err.ensures in
    rw (← c.self.view_is) (add_command_tried (the_view c.self.inside) c.args.name.now c.in-Err.place none (sym c.is_name.ensures ∙ c.if-not-is_name.false)
    (lt-ltb _ _ (omega (arith, c.if-len-ge-COMMANDS_MAX.false, c.len.ensures)))
    c.insert_command.result c.insert_command.new.commands.items c.insert_command.ensures)

pub returns-in-Err-clause-succeeds : goal.returns-in-Err-clause-succeeds
returns-in-Err-clause-succeeds c =
    let none : IsFree itself c.args.name.now c.self.inside.commands.items c.in-Err.place = rw c.deref.ensures.value at c.in-Err.ensures in
    let grows : adds (the_view c.self.inside) (add_command c.args.name.now) ≡ true =
    add_command_adds (the_view c.self.inside) c.args.name.now c.in-Err.place none (sym c.is_name.ensures ∙ c.if-not-is_name.false)
    (lt-ltb _ _ (omega (arith, c.if-len-ge-COMMANDS_MAX.false, c.len.ensures))) in
    rw (← c.self.view_is) (λ same. cc (sym grows ∙ same))

pub returns-in-Err-clause-err : goal.returns-in-Err-clause-err
returns-in-Err-clause-err c =
    rw (← c.self.view_is) (commands_kept c.insert_command.result (the_view c.self.inside) c.insert_command.new.commands.items _ c.insert_command.ensures)
