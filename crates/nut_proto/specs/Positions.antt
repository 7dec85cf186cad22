-- A word of a line, by its place counted from 0.
use Rattle.std.specs.Prelude.{ℕ, List, [], slice_index_or}

-- the word at this place, or the empty word past the last
abbrev pub word_at : List (List ℕ) → ℕ → List ℕ
word_at words index = slice_index_or words index []
