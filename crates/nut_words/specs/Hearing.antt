-- How the lines of a stream are heard, one after the other.
use Rattle.std.specs.Prelude.{◌≡◌, ℕ, List, [], ◌∷◌, ◌++◌, length}
use Rattle.nut_words.specs.Lines.{LineText, rest}

-- the unfinished line of some stream
abbrev pub IsRest : LineText → Type 0
IsRest line = (b : List ℕ) × (line ≡ rest b)

-- what a hearer is after these lines
abbrev pub heard_all : {H : Type 0} → (LineText → H → H) → List LineText → H → H
heard_all heard [] hearer = hearer
heard_all heard (line ∷ lines) hearer = heard_all heard lines (heard line hearer)

-- A hearer stopped at one of these lines, behind `done` of them, which it heard.
pub record StopsAt {H : Type 0} (heard : LineText → H → H) (Stops : LineText → H → Type 0) (lines : List LineText) (before : H) (done : ℕ) : Type 0 where
  pub earlier : List LineText
  pub line : LineText
  pub later : List LineText
  pub parted : lines ≡ earlier ++ line ∷ later
  pub count : done ≡ length earlier
  pub stops : Stops line (heard_all heard earlier before)
