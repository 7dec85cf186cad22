use Rattle.std.proofs.Common.{◌≡◌, length}
use Rattle.nut_state.specs.Sorted.{name_cmp}
use Rattle.nut_state.proofs.CompareLemmas.{AreBytes}
use Rattle.nut_state.proofs.sorted.compare.Given as goal

abbrev pub invariant-loop-front : goal.invariant-loop-front
invariant-loop-front l = record {
  same : name_cmp l.a l.b ≡ name_cmp l.left l.right;
  bytes : AreBytes l.left;
  others : AreBytes l.right;
}

abbrev pub decreases-loop-front : goal.decreases-loop-front
decreases-loop-front l = length l.left
