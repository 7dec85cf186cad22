-- How a row ends that lists a variable.
use Rattle.std.specs.Prelude.{ℕ, ◌==◌, Bool, List, [], ◌∷◌, ◌++◌, length}
use Rattle.std.specs.List.{list_all}
use Rattle.nut_words.specs.Bytes.{blank, line_feed}
use Rattle.nut_words.specs.Quoting.{escaped, quoted, word_text}

-- a variable's name and value
pub record Named : Type 0 where
  pub name : List ℕ
  pub value : List ℕ

-- the end of the variable's row: its name, a blank, its quoted value and a line feed
abbrev pub row_end : (name value : List ℕ) → List ℕ
row_end name value = word_text name ++ blank ∷ (quoted value ++ line_feed ∷ [])

-- whether no byte of the value is escaped between its quotes
abbrev pub is_unescaped : List ℕ → Bool
is_unescaped value = list_all (λ c. length (escaped c) == 1) value
