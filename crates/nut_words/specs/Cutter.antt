-- What a line cutter hands out and keeps.
use Rattle.std.specs.Prelude.{◌≡◌, ℕ, List, [], ◌∷◌, ◌++◌, length, Option, Some, None, OnSome}
use Rattle.std.specs.Borrow.{Fml, MutBor}
use Rattle.std.specs.Io.BufRead.{Rests}
use Rattle.nut_words.specs.Bytes.{line_feed}
use Rattle.nut_words.specs.Lines.{LineText, Text, TooLong, lines, rest}
use Rattle.nut_words.specs.declared.cutter.Line.{Line}
use Rattle.nut_words.specs.declared.cutter.Line.TheVariants as variants
use Rattle.nut_words.specs.declared.cutter.LineCutter.{LineCutter}
use Rattle.nut_words.specs.contracts.cutter.LineCutter.{the_row}

-- a line, whatever its place in memory
abbrev pub line_of : Line → LineText
line_of (variants.Text text) = Text text.now
line_of variants.TooLong = TooLong

-- the line that was handed out, or none
abbrev pub handed_out : Option Line → List LineText
handed_out None = []
handed_out (Some line) = line_of line ∷ []

-- how many bytes of the unfinished line are kept: its length, or 0 if it is too long
abbrev pub kept_of : LineText → ℕ
kept_of (Text text) = length text
kept_of TooLong = 0

-- For all bytes b: if `old` is the rest of b, then `new` is the rest of b followed by `used`.
abbrev pub Follows : LineText → LineText → List ℕ → Type 0
Follows old new used = (b : List ℕ) → old ≡ rest b → new ≡ rest (b ++ used)

-- When the borrow of the returned line ends, the cutter holds the rest of the stream after the used bytes. If a line
-- was returned, that rest is the empty line: a line is returned only at its line feed.
abbrev pub LeavesRest : MutBor LineCutter → List ℕ → Option Line → Fml
LeavesRest c used line = Rests the_row c (λ new. Follows c.now new used × OnSome line (new ≡ Text []))

-- A piece begins with this whole line, which isn't too long, and these bytes follow its line feed.
pub record IsFirstLine (text piece after : List ℕ) : Type 0 where
  pub parted : piece ≡ text ++ line_feed ∷ after
  pub whole : lines (text ++ line_feed ∷ []) ≡ Text text ∷ []
