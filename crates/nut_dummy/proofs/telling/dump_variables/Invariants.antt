use Rattle.std.proofs.Common.{◌≡◌, ◌++◌, true, take}
use Rattle.std.specs.List.{flat_map}
use Rattle.nut_dummy.specs.Teller.{lines_of}
use Rattle.nut_dummy.proofs.telling.dump_variables.Given as goal

abbrev pub invariant-loop-variable : goal.invariant-loop-variable
invariant-loop-variable l = l.out.items ≡ l.fn.out.items ++ flat_map (λ v. lines_of true v.name v.value) (take l.variable-index l.variables)
