use Rattle.std.proofs.Common.{◌≡◌, length}
use Rattle.nut_dummy.specs.Item.{skip_last_blanks}
use Rattle.nut_dummy.proofs.trim.skip_last_blanks.Given as goal

abbrev pub invariant-loop-last : goal.invariant-loop-last
invariant-loop-last l = skip_last_blanks l.left ≡ skip_last_blanks l.fn.text

abbrev pub decreases-loop-last : goal.decreases-loop-last
decreases-loop-last l = length l.left
