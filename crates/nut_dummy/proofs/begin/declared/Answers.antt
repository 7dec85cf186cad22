use Rattle.std.proofs.Common.{[], sym, ap, ◌∙◌, subst}
use Rattle.std.specs.Prelude.{map}
use Rattle.std.specs.List.{insert}
use Rattle.nut_state.specs.Sorted.{IsFound, IsFree, IsAscending}
use Rattle.nut_dummy.proofs.ScriptLemmas.{name_of, declared_found, ascending_free}
use Rattle.nut_dummy.proofs.begin.declared.Goals as goal

pub returns-in-Ok-clause-declared : goal.returns-in-Ok-clause-declared
returns-in-Ok-clause-declared c =
    let found : IsFound name_of c.args.name.now c.args.variables.items c.in-Ok.field-0 = rw c.deref.ensures.value at c.in-Ok.ensures in
    declared_found c.args.name.now c.args.variables.items c.in-Ok.field-0 found

pub returns-in_ok-insert-in-Err-clause-ascending : goal.returns-in_ok-insert-in-Err-clause-ascending
returns-in_ok-insert-in-Err-clause-ascending c =
    let free : IsFree name_of c.args.name.now c.args.variables.items c.in-Err.place = rw c.deref.ensures.value at c.in-Err.ensures in
    subst (λ vs. IsAscending (map name_of vs))
    (sym (c.in_ok-insert-in-Err.ensures.items ∙ ap (insert c.args.variables.items c.in-Err.place) (c.new-in-Err.ensures ∙ ap (λ n. record { name = n; steps = [] }) c.new.ensures)))
    (ascending_free c.args.name.now c.args.variables.items c.in-Err.place free c.requires.ascending)
