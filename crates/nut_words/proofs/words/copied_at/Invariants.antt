use Rattle.std.proofs.Common.{◌≡◌, ℕ, ◌≤◌, List, [], length, take, get_or}
use Rattle.nut_words.specs.inside.WordsInside.{with_copied}
use Rattle.nut_words.proofs.words.copied_at.Given as goal

-- None of the copies already looked at has the place.
abbrev pub invariant-loop-left : goal.invariant-loop-left
invariant-loop-left l =
    (l.left ≤ length l.copied)
    × ((words : List (List ℕ)) → get_or (with_copied (take l.left l.copied) words) l.place [] ≡ get_or (with_copied l.copied words) l.place [])

abbrev pub decreases-loop-left : goal.decreases-loop-left
decreases-loop-left l = l.left
