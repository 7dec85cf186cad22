use Rattle.std.proofs.Common.{◌≡◌, ◌++◌, take}
use Rattle.std.specs.List.{flat_map}
use Rattle.nut_dummy.specs.Teller.{says}
use Rattle.nut_dummy.specs.inside.Changes.{change_of}
use Rattle.nut_dummy.proofs.telling.say_all.Given as goal

abbrev pub invariant-loop-variable : goal.invariant-loop-variable
invariant-loop-variable l = l.out.items ≡ l.fn.out.items ++ flat_map (says (change_of l.change)) (take l.variable-index l.variables)
