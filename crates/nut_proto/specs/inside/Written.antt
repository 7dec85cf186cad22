-- For private functions, nothing here has to be believed: a line that is given by the words that it begins with, which are
-- written as they stand, and by the parts behind them.
use Rattle.std.specs.Prelude.{◌≡◌, ℕ, List, [], ◌∷◌, ◌++◌, Option, Result, OnOk, OnErr, length}
use Rattle.std.specs.List.{flat_map}
use Rattle.nut_words.specs.Bytes.{blank, line_feed}
use Rattle.nut_words.specs.Out.{Fits, Exceeds}
use Rattle.nut_proto.specs.declared.line.Line.{Line}
use Rattle.nut_proto.specs.declared.line.Line.TheVariants.{Bare, One, Two, Three, Four}
use Rattle.nut_proto.specs.declared.part.Part.{Part}
use Rattle.nut_proto.specs.Lines.{part_text}

-- the line of these words and, each behind a space, these parts
abbrev pub line_from : List ℕ → List Part → List ℕ
line_from words parts = (words ++ flat_map (λ part. blank ∷ part_text part) parts) ++ line_feed ∷ []

abbrev pub written : Line → List ℕ
written (Bare words) = line_from words.now []
written (One words first) = line_from words.now (first ∷ [])
written (Two words first second) = line_from words.now (first ∷ second ∷ [])
written (Three words first second third) = line_from words.now (first ∷ second ∷ third ∷ [])
written (Four words first second third fourth) = line_from words.now (first ∷ second ∷ third ∷ fourth ∷ [])

-- A text was appended to a buffer that can hold at most so many bytes, or nothing was; as a buffer's own `append` does.
pub record Puts {T E : Type 0} (most : Option ℕ) (before after text : List ℕ) (result : Result T E) : Type 0 where
  pub ok : OnOk result (after ≡ before ++ text)
  pub err : OnErr result (after ≡ before)
  pub fits : OnOk result (Fits most (length (before ++ text)))
  pub full : OnErr result (Exceeds most (length (before ++ text)))
