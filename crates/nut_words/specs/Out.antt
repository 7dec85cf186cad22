-- Whether a buffer can hold so many bytes.
use Rattle.std.specs.Prelude.{ℕ, ◌≤◌, ◌<◌, ⊤, Option, None, Some}

-- A buffer that can hold at most so many bytes holds these. Nothing is said of a buffer that grows.
abbrev pub Fits : Option ℕ → ℕ → Type 0
Fits None n = ⊤
Fits (Some most) n = n ≤ most

-- These are more bytes than the buffer can hold. Nothing is said of a buffer that grows.
abbrev pub Exceeds : Option ℕ → ℕ → Type 0
Exceeds None n = ⊤
Exceeds (Some most) n = most < n
