use Rattle.std.proofs.Common.{◌≡◌, length}
use Rattle.nut_dummy.specs.Item.{skip_blanks}
use Rattle.nut_dummy.proofs.trim.skip_blanks.Given as goal

abbrev pub invariant-loop-first : goal.invariant-loop-first
invariant-loop-first l = skip_blanks l.left ≡ skip_blanks l.fn.text

abbrev pub decreases-loop-first : goal.decreases-loop-first
decreases-loop-first l = length l.left
