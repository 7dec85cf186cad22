use Rattle.std.proofs.Common.{◌≡◌, ◌≤◌, ◌++◌, ℕ, List, drop, length, take}
use Rattle.nut_words.specs.Hearing.{heard_all}
use Rattle.nut_words.specs.Lines.{lines_after, rest}
use Rattle.nut_words.proofs.hearing.hear_lines.Given as goal

-- The lines that the first n bytes complete were heard.
abbrev pub invariant-loop-left : goal.invariant-loop-left
invariant-loop-left g l = record {
  heard : (n : ℕ) × (n ≤ length l.piece) × (l.left ≡ drop n l.piece) × (l.done ≡ length (lines_after l.fn.cutter (take n l.piece)))
      × (l.hearer ≡ heard_all (g.H.HearLine.heard l.with) (lines_after l.fn.cutter (take n l.piece)) l.fn.hearer)
      × ((b : List ℕ) → l.fn.cutter ≡ rest b → l.cutter ≡ rest (b ++ take n l.piece));
  goes_on : g.H.HearLine.GoesOn l.hearer;
}

abbrev pub decreases-loop-left : goal.decreases-loop-left
decreases-loop-left g l = length l.left
