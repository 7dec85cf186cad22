-- What a name of a UPS, a user, a variable or a command is.
use Rattle.std.specs.Prelude.{ℕ, ◌==◌, ◌&&◌, ◌||◌, Bool, List, length, nat_le}
use Rattle.std.specs.List.{list_all}
use Rattle.std.specs.Char.{is_ascii_alphanumeric}

-- whether the byte is an ASCII letter or digit, `.`, `_` or `-`
abbrev pub is_name_byte : ℕ → Bool
is_name_byte c = is_ascii_alphanumeric c || c == 46 || c == 95 || c == 45

-- whether the bytes are 1 to `most` name bytes
abbrev pub is_name : ℕ → List ℕ → Bool
is_name most bytes = nat_le 1 (length bytes) && nat_le (length bytes) most && list_all is_name_byte bytes
