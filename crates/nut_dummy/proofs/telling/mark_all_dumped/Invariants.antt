use Rattle.std.proofs.Common.{◌≡◌}
use Rattle.nut_dummy.specs.inside.Machine.{dumped}
use Rattle.nut_dummy.proofs.SweptLemmas.{swept}
use Rattle.nut_dummy.proofs.telling.mark_all_dumped.Given as goal

abbrev pub invariant-loop-variable : goal.invariant-loop-variable
invariant-loop-variable l = l.variables ≡ swept (dumped) l.variable-index l.fn.variables
