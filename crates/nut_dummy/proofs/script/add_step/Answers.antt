use Rattle.std.proofs.Common.{sym, ◌∙◌, subst}
use Rattle.std.specs.Prelude.{map, length, nat_lt}
use Rattle.nut_state.specs.Sorted.{IsFound, IsFree, IsAscending}
use Rattle.nut_dummy.specs.declared.limits.TheConstants.{SCRIPT_VARIABLES_MAX}
use Rattle.nut_dummy.proofs.ScriptLemmas.{name_of, step_found, step_free, step_taken, ascending_step}
use Rattle.nut_dummy.proofs.script.add_step.Goals as goal

pub returns-in_ok-add-in-Ok-clause-step : goal.returns-in_ok-add-in-Ok-clause-step
returns-in_ok-add-in-Ok-clause-step c =
    let found : IsFound name_of c.args.name c.args.variables.now.items c.in-Ok.place = rw (c.deref.ensures.value, c.as_bytes.ensures.value) at c.in-Ok.ensures in
    step_taken c.args.name c.args.step c.args.variables.now.items c.in-Ok.place c.index_mut.result.now c.add.new.self
    (nat_lt (length c.args.variables.now.items) SCRIPT_VARIABLES_MAX) found c.index_mut.ensures.value c.in_ok-add-in-Ok.ensures.ok

pub returns-in_ok-add-in-Ok-clause-ascending : goal.returns-in_ok-add-in-Ok-clause-ascending
returns-in_ok-add-in-Ok-clause-ascending c =
    let found : IsFound name_of c.args.name c.args.variables.now.items c.in-Ok.place = rw (c.deref.ensures.value, c.as_bytes.ensures.value) at c.in-Ok.ensures in
    subst (λ vs. IsAscending (map name_of vs))
    (sym (step_found c.args.name c.args.step c.args.variables.now.items c.in-Ok.place c.index_mut.result.now c.add.new.self found c.index_mut.ensures.value c.in_ok-add-in-Ok.ensures.ok))
    (ascending_step c.args.name c.args.step c.args.variables.now.items c.requires)

pub returns-in_ok-insert_step-in-Err-clause-ascending : goal.returns-in_ok-insert_step-in-Err-clause-ascending
returns-in_ok-insert_step-in-Err-clause-ascending c =
    let free : IsFree name_of c.args.name c.args.variables.now.items c.in-Err.place = rw (c.deref.ensures.value, c.as_bytes.ensures.value) at c.in-Err.ensures in
    subst (λ vs. IsAscending (map name_of vs))
    (sym (c.in_ok-insert_step-in-Err.ensures.ok ∙ step_free c.args.name c.args.step c.args.variables.now.items c.in-Err.place free))
    (ascending_step c.args.name c.args.step c.args.variables.now.items c.requires)
