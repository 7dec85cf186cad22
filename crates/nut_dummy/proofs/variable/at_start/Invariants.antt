use Rattle.std.proofs.Common.{◌≡◌, ◌==◌, take}
use Rattle.nut_dummy.specs.Due.{newest}
use Rattle.nut_dummy.proofs.variable.at_start.Given as goal

abbrev pub invariant-loop-step : goal.invariant-loop-step
invariant-loop-step l = l.found ≡ newest (λ step. step.at == 0) (take l.step-index l.steps)
