-- The next part of what was read, up to its first line feed.
use Rattle.std.specs.Prelude.{◌≡◌, ℕ, ◌+◌, ◌*◌, length, Bool, true, false, List, [], ◌∷◌, ◌++◌}
use Rattle.nut_words.specs.Lines.{parts}
use Rattle.nut_words.specs.declared.limits.TheConstants.{PIECE_MAX}

-- bytes without a line feed
abbrev pub IsUnbroken : List ℕ → Type 0
IsUnbroken bytes = parts bytes ≡ bytes ∷ []

-- a line's bytes with its line feed
abbrev pub IsWhole : List ℕ → Type 0
IsWhole part = (text : List ℕ) × IsUnbroken text × (part ≡ text ++ 10 ∷ [])

-- whether this part ends its line
abbrev pub IsEnded : Bool → List ℕ → Type 0
IsEnded true part = IsWhole part
IsEnded false part = IsUnbroken part

-- how many more parts can be heard, at most, where a stream takes this many calls and these bytes are unread
abbrev pub steps_left : ℕ → List ℕ → ℕ
steps_left calls unread = calls * (PIECE_MAX + 1) + length unread
