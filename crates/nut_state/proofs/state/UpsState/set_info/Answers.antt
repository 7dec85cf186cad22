use Rattle.std.proofs.Common.{◌≡◌, true, Some, length, sym, subst}
use Rattle.std.specs.Prelude.{slice_set, nat_le}
use Rattle.std.proofs.lemmas.Bool.{and_right, le-leb, lt-leb}
use Rattle.nut_words.specs.declared.limits.TheConstants.{VALUE_MAX}
use Rattle.nut_state.specs.Sorted.{IsFound}
use Rattle.nut_state.specs.Table.{variable}
use Rattle.nut_state.specs.laws.Holds.{IsTable, IsWithinLimits}
use Rattle.nut_state.specs.contracts.state.UpsState.{the_view}
use Rattle.nut_state.specs.Text.{is_name}
use Rattle.nut_state.specs.Step.{after}
use Rattle.nut_state.specs.Change.{set_info}
use Rattle.nut_state.proofs.PutLemmas.{name-named, All-named}
use Rattle.nut_state.proofs.TableLemmas.{IsTable-after}
use Rattle.nut_state.proofs.ChangeLemmas.{name_of, variable_is, set_info_found, set_info_refused}
use Rattle.nut_state.proofs.state.UpsState.set_info.Goals as goal

pub returns-then-value-gt-VALUE_MAX-clause-ok : goal.returns-then-value-gt-VALUE_MAX-clause-ok
returns-then-value-gt-VALUE_MAX-clause-ok c =
    set_info_refused c.args.self.now c.args.name.now c.args.value.now
    (and_right (is_name c.args.name.now) (nat_le (length c.args.value.now) VALUE_MAX) (lt-leb _ _ c.if-value-gt-VALUE_MAX.true))

edited : (c : goal.After-self-1)
    → record (the_view c.self.inside) { variables = slice_set c.self.inside.variables.items c.in-Ok.place c.set_value.new.self }
    ≡ after (the_view c.self.inside) (set_info c.args.name.now c.args.value.now)
edited c =
    let found : IsFound name_of c.args.name.now c.self.inside.variables.items c.in-Ok.place = rw c.deref.ensures.value at c.in-Ok.ensures in
    let is : variable (the_view c.self.inside) c.args.name.now ≡ Some c.index_mut.result.now =
    variable_is (the_view c.self.inside) c.args.name.now c.in-Ok.place c.index_mut.result.now found c.index_mut.ensures.value in
    let limits : IsWithinLimits c.index_mut.result.now =
    All-named name_of IsWithinLimits c.args.name.now c.self.inside.variables.items c.index_mut.result.now c.self.invariant.each_within is in
    let named : is_name c.args.name.now ≡ true =
    subst (λ n. is_name n ≡ true) (name-named name_of c.args.name.now c.self.inside.variables.items c.index_mut.result.now is) limits.name in
    set_info_found (the_view c.self.inside) c.args.name.now c.in-Ok.place c.index_mut.result.now found c.index_mut.ensures.value c.args.value.now
    c.set_value.new.self named (le-leb _ _ c.if-value-gt-VALUE_MAX.false) c.set_value.ensures

pub invariant_of-self : goal.invariant_of-self
invariant_of-self c =
    subst IsTable (sym (edited c)) (IsTable-after (the_view c.self.inside) (set_info c.args.name.now c.args.value.now) c.self.invariant)

pub returns-in-Ok-clause-ok : goal.returns-in-Ok-clause-ok
returns-in-Ok-clause-ok c = rw (← c.self.view_is) (edited c)
