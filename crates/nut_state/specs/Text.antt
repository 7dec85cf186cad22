-- What names variables and commands may have.
use Rattle.std.specs.Prelude.{ℕ, Bool, List}
use Rattle.nut_words.specs.Name.{is_name as is_name_upto}
use Rattle.nut_words.specs.declared.limits.TheConstants.{NAME_MAX}

-- A name has at most NAME_MAX bytes.
abbrev pub is_name : List ℕ → Bool
is_name text = is_name_upto NAME_MAX text
