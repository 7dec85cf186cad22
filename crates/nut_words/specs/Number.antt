-- Whole numbers as the protocols' lines have them.
use Rattle.std.specs.Prelude.{ℕ, ◌+◌, ◌-◌, ◌*◌, ◌&&◌, Bool, List, Option, Some, None, if◌then◌else◌, nat_lt, nat_le, length, fold}
use Rattle.std.specs.List.{list_all}
use Rattle.std.specs.Char.{is_ascii_digit}

-- The number that decimal digits say, the most significant digit first.
abbrev pub digits_value : List ℕ → ℕ
digits_value text = fold (λ n digit. 10 * n + (digit - 48)) 0 text

-- Whether the text is a number of one to nine digits.
abbrev pub is_natural : List ℕ → Bool
is_natural text = nat_lt 0 (length text) && nat_le (length text) 9 && list_all is_ascii_digit text

-- The number that the text says, if it says one.
abbrev pub natural : List ℕ → Option ℕ
natural text = if is_natural text then Some (digits_value text) else None
