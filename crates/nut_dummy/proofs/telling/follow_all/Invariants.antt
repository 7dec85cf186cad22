use Rattle.std.proofs.Common.{◌≡◌}
use Rattle.nut_dummy.specs.inside.Machine.{followed}
use Rattle.nut_dummy.specs.inside.Changes.{change_of}
use Rattle.nut_dummy.proofs.SweptLemmas.{swept}
use Rattle.nut_dummy.proofs.telling.follow_all.Given as goal

abbrev pub invariant-loop-variable : goal.invariant-loop-variable
invariant-loop-variable l = l.variables ≡ swept (followed l.asked (change_of l.change)) l.variable-index l.fn.variables
