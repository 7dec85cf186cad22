-- What the lines of a stream of bytes are, which line is left unfinished at its end, and how both grow with the stream.
use Rattle.std.specs.Prelude.{ℕ, ◌==◌, List, [], ◌∷◌, ◌++◌, length, map, nat_le, if◌then◌else◌}
use Rattle.std.specs.List.{slice_split}
use Rattle.nut_words.specs.Bytes.{line_feed}
use Rattle.nut_words.specs.declared.limits.TheConstants.{LINE_MAX}

-- a line without its line feed: its text, or the mark of one that is longer than LINE_MAX bytes
pub data LineText : Type 0 where
  Text : List ℕ → LineText
  TooLong : LineText

-- the line with this text
abbrev pub as_line : List ℕ → LineText
as_line text = if nat_le (length text) LINE_MAX then Text text else TooLong

-- the bytes between the line feeds: one part more than there are line feeds
abbrev pub parts : List ℕ → List (List ℕ)
parts bytes = slice_split (λ c. c == line_feed) bytes

-- the last of the parts
abbrev pub last_of : List (List ℕ) → List ℕ
last_of [] = []
last_of (t ∷ []) = t
last_of (t ∷ u ∷ ts) = last_of (u ∷ ts)

-- the parts before the last
abbrev pub all_but_last : List (List ℕ) → List (List ℕ)
all_but_last [] = []
all_but_last (t ∷ []) = []
all_but_last (t ∷ u ∷ ts) = t ∷ all_but_last (u ∷ ts)

-- The lines of a stream: the parts that end with a line feed, without it.
abbrev pub lines : List ℕ → List LineText
lines bytes = map as_line (all_but_last (parts bytes))

-- The unfinished line of a stream: what follows its last line feed, or all of it if it has none.
abbrev pub rest : List ℕ → LineText
rest bytes = as_line (last_of (parts bytes))

-- an unfinished line followed by more bytes, none of them a line feed
abbrev pub joined : LineText → List ℕ → LineText
joined (Text text) more = as_line (text ++ more)
joined TooLong more = TooLong

-- the lines that these parts complete after an unfinished line, which the first part continues
abbrev pub completed : LineText → List (List ℕ) → List LineText
completed old [] = []
completed old (t ∷ []) = []
completed old (t ∷ u ∷ ts) = joined old t ∷ map as_line (all_but_last (u ∷ ts))

-- the unfinished line after these parts, given the one before them
abbrev pub unfinished : LineText → List (List ℕ) → LineText
unfinished old [] = old
unfinished old (t ∷ []) = joined old t
unfinished old (t ∷ u ∷ ts) = as_line (last_of (u ∷ ts))

-- The lines that more bytes complete after this unfinished line.
abbrev pub lines_after : LineText → List ℕ → List LineText
lines_after old more = completed old (parts more)

-- The unfinished line after more bytes, given the one before them.
abbrev pub rest_after : LineText → List ℕ → LineText
rest_after old more = unfinished old (parts more)
