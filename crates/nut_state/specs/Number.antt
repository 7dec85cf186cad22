-- Whole numbers as a driver's lines have them.
use Rattle.std.specs.Prelude.{ℕ, ℤ, pos, neg_ℤ, ◌==◌, List, [], ◌∷◌, Option, Some, None, if◌then◌else◌, option_map, int_le}
use Rattle.std.specs.Option.{option_and_then}
use Rattle.nut_words.specs.Number.{natural}
use Rattle.nut_state.specs.declared.number.Range.{Range}

-- The number that the text says, if it says one. Its digits may follow a minus sign, the byte 45.
abbrev pub whole_number : List ℕ → Option ℤ
whole_number [] = None
whole_number (byte ∷ rest) =
    if byte == 45 then option_map (λ n. neg_ℤ (pos n)) (natural rest) else option_map pos (natural (byte ∷ rest))

-- The range from the first to the second number, if both texts are whole numbers and the first is at most the second.
abbrev pub range_of : List ℕ → List ℕ → Option Range
range_of low high =
    option_and_then (λ minimum. option_and_then (λ maximum.
    if int_le minimum maximum then Some (record { minimum = minimum; maximum = maximum }) else None) (whole_number high)) (whole_number low)
