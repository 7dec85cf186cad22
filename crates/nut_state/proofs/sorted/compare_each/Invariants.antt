use Rattle.std.proofs.Common.{◌≡◌, ◌-◌, ◌≤◌, length, drop}
use Rattle.nut_state.specs.Sorted.{name_cmp}
use Rattle.nut_state.proofs.sorted.compare_each.Given as goal

abbrev pub invariant-loop-at : goal.invariant-loop-at
invariant-loop-at l = (l.at ≤ length l.a) × (l.at ≤ length l.b) × (name_cmp l.a l.b ≡ name_cmp (drop l.at l.a) (drop l.at l.b))

abbrev pub decreases-loop-at : goal.decreases-loop-at
decreases-loop-at l = length l.a - l.at
