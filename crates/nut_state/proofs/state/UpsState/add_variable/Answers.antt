use Rattle.std.proofs.Common.{◌≡◌, true, sym, ◌∙◌, arith}
use Rattle.std.proofs.lemmas.Bool.{and_left, lt-ltb, le-ltb, le-leb}
use Rattle.nut_state.specs.contracts.state.UpsState.{the_view}
use Rattle.nut_state.specs.Sorted.{IsFree}
use Rattle.nut_state.specs.Step.{adds}
use Rattle.nut_state.specs.Change.{set_info}
use Rattle.nut_state.proofs.ChangeLemmas.{name_of, set_info_tried, set_info_keeps, set_info_adds, set_info_full, set_info_refused}
use Rattle.nut_state.proofs.state.UpsState.add_variable.Goals as goal

pub returns-then-not-is_name-clause-ok : goal.returns-then-not-is_name-clause-ok
returns-then-not-is_name-clause-ok c =
    set_info_refused c.args.self.now c.args.name.now c.args.value.now (and_left _ _ (sym c.is_name.ensures ∙ c.if-not-is_name.true))

pub returns-then-len-ge-VARIABLES_MAX-clause-ok : goal.returns-then-len-ge-VARIABLES_MAX-clause-ok
returns-then-len-ge-VARIABLES_MAX-clause-ok c =
    rw (← c.self.view_is) (set_info_full (the_view c.self.inside) c.args.name.now c.args.value.now (rw (← c.self.view_is) at c.requires.free).is
    (le-ltb _ _ (omega (arith, c.if-len-ge-VARIABLES_MAX.true, c.len.ensures))))

pub invariant_of-self : goal.invariant_of-self
invariant_of-self c =
    let none : IsFree name_of c.args.name.now c.self.inside.variables.items c.args.place = rw (← c.self.view_is) at c.requires.free in
    set_info_keeps (the_view c.self.inside) c.args.name.now c.args.value.now c.args.place none (sym c.is_name.ensures ∙ c.if-not-is_name.false)
    (le-leb _ _ c.requires.value) (lt-ltb _ _ (omega (arith, c.if-len-ge-VARIABLES_MAX.false, c.len.ensures)))
    c.insert_variable.result c.insert_variable.new.variables.items c.insert_variable.ensures c.self.invariant

pub returns-clause-ok : goal.returns-clause-ok
returns-clause-ok c =
    let none : IsFree name_of c.args.name.now c.self.inside.variables.items c.args.place = rw (← c.self.view_is) at c.requires.free in
    rw (← c.self.view_is) (set_info_tried (the_view c.self.inside) c.args.name.now c.args.value.now c.args.place none (sym c.is_name.ensures ∙ c.if-not-is_name.false)
    (le-leb _ _ c.requires.value) (lt-ltb _ _ (omega (arith, c.if-len-ge-VARIABLES_MAX.false, c.len.ensures)))
    c.insert_variable.result c.insert_variable.new.variables.items c.insert_variable.ensures)

pub returns-clause-succeeds : goal.returns-clause-succeeds
returns-clause-succeeds c =
    let none : IsFree name_of c.args.name.now c.self.inside.variables.items c.args.place = rw (← c.self.view_is) at c.requires.free in
    let grows : adds (the_view c.self.inside) (set_info c.args.name.now c.args.value.now) ≡ true =
    set_info_adds (the_view c.self.inside) c.args.name.now c.args.value.now c.args.place none (sym c.is_name.ensures ∙ c.if-not-is_name.false)
    (le-leb _ _ c.requires.value) (lt-ltb _ _ (omega (arith, c.if-len-ge-VARIABLES_MAX.false, c.len.ensures))) in
    rw (← c.self.view_is) (λ same. cc (sym grows ∙ same))
