use Rattle.std.proofs.Common.{◌≡◌}
use Rattle.nut_dummy.specs.inside.Machine.{untold}
use Rattle.nut_dummy.proofs.SweptLemmas.{swept}
use Rattle.nut_dummy.proofs.telling.forget_link.Given as goal

abbrev pub invariant-loop-variable : goal.invariant-loop-variable
invariant-loop-variable l = l.variables ≡ swept (untold) l.variable-index l.fn.variables
