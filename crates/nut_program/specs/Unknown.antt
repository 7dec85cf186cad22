-- The word of a line of a configuration file.
use Rattle.std.specs.Prelude.{ℕ, List, [], ◌∷◌, Option, None, Some, Result, Ok, Err}
use Rattle.nut_words.specs.Reader.{spelled}
use Rattle.nut_words.specs.declared.words.WordFault.{WordFault}

-- the first of the words, if there are any
abbrev pub first_of : Result (List (List ℕ)) WordFault → Option (List ℕ)
first_of (Ok (word ∷ words)) = Some word
first_of (Ok []) = None
first_of (Err fault) = None

-- the first of the words that a line spells
abbrev pub first_word : List ℕ → Option (List ℕ)
first_word line = first_of (spelled line)
