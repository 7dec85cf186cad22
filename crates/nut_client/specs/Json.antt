-- The JSON text of rows of names and values (RFC 8259).
use Rattle.std.specs.Prelude.{ℕ, ◌+◌, ◌==◌, ◌||◌, List, [], ◌∷◌, ◌++◌, codes, nat_lt, ◌/◌, ◌%◌, slice_index_or, if◌then◌else◌}
use Rattle.std.specs.List.{flat_map}

-- the digit of a number below 16
abbrev pub hex_digit : ℕ → ℕ
hex_digit n = if nat_lt n 10 then 48 + n else 87 + n

-- A byte in a string (section 7): `"` and `\` after a backslash; another byte of 0x20 to 0x7E as it is; any other as
-- `\u` and four hexadecimal digits, so that the text is ASCII.
abbrev pub escaped : ℕ → List ℕ
escaped b =
    if (b == 34) || (b == 92) then 92 ∷ b ∷ []
    else if nat_lt b 32 || nat_lt 126 b then codes "\\u00" ++ hex_digit (b / 16) ∷ hex_digit (b % 16) ∷ []
    else b ∷ []

abbrev pub json_string : List ℕ → List ℕ
json_string text = 34 ∷ flat_map escaped text ++ 34 ∷ []

-- a name and its value, both strings: the first two words of a row
abbrev pub member : List (List ℕ) → List ℕ
member row = json_string (slice_index_or row 0 []) ++ codes ": " ++ json_string (slice_index_or row 1 [])

abbrev pub members : List (List (List ℕ)) → List ℕ
members [] = []
members (row ∷ rows) = member row ++ flat_map (λ r. codes ", " ++ member r) rows

-- the rows as one object (section 4), on one line
abbrev pub json_object : List (List (List ℕ)) → List ℕ
json_object rows = codes "{" ++ members rows ++ codes "}\n"
