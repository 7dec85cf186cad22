-- The lines that a piece completes, if the bytes come in pieces.
use Rattle.std.proofs.Common.{arith}
use Rattle.std.proofs.Common.{◌≡◌, ℕ, List, [], ◌∷◌, ◌++◌, false, eqb, length, drop, sym, ◌∙◌, ap, append_assoc, append-nil}
use Rattle.std.proofs.Math.Seq.{drop-append_seam}
use Rattle.std.proofs.lemmas.Bool.{eqb-false}
use Rattle.nut_words.specs.Lines.{LineText, lines, rest}
use Rattle.nut_words.proofs.StreamGrowth.{lines-append, lines_at_line_feed, lines_within}
use Rattle.nut_server_spec.specs.Event.{brought}

-- A piece completes the lines by which those of the whole grow.
brought_is : (a b : List ℕ) (more : List LineText) → lines (a ++ b) ≡ lines a ++ more → brought a b ≡ more
brought_is a b more is = ap (drop (length (lines a))) is ∙ drop-append_seam (lines a) more

pub lines_grow : (a b : List ℕ) → lines (a ++ b) ≡ lines a ++ brought a b
lines_grow a b = grind (arith, lines-append, brought_is)

-- A piece completes what its two parts complete, one after the other.
pub brought-append : (a x y : List ℕ) → brought a (x ++ y) ≡ brought a x ++ brought (a ++ x) y
brought-append a x y = grind (arith, brought_is, append_assoc, lines_grow)

pub brought_none : (a : List ℕ) → brought a [] ≡ []
brought_none a = brought_is a [] [] (ap lines (append-nil a) ∙ sym (append-nil (lines a)))

pub brought_line_feed : (a : List ℕ) → brought a (10 ∷ []) ≡ rest a ∷ []
brought_line_feed a = brought_is a (10 ∷ []) (rest a ∷ []) (lines_at_line_feed a)

pub brought_within : (a : List ℕ) (b : ℕ) → eqb b 10 ≡ false → brought a (b ∷ []) ≡ []
brought_within a b other = brought_is a (b ∷ []) [] (lines_within a b (eqb-false b 10 other) ∙ sym (append-nil (lines a)))
