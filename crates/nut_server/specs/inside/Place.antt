-- For private functions, nothing here has to be believed: the place of a connection in a list of sessions.
use Rattle.std.specs.Prelude.{ℕ, zero, suc, ◌≡◌, false, true, ◌==◌, ◌<◌, length, slice_get, List, [], ◌∷◌}
use Rattle.nut_server_spec.specs.Content.{Session}
use Rattle.nut_server_spec.specs.Acceptance.{session_of}

-- The session with the number c is at this place, and none before it has this number.
abbrev pub IsPlace : ℕ → List Session → ℕ → Type 0
IsPlace c [] at = ⊥
IsPlace c (k ∷ sessions) zero = (k.number == c) ≡ true
IsPlace c (k ∷ sessions) (suc at) = ((k.number == c) ≡ false) × IsPlace c sessions at

-- The session of the connection c is at this place of the list.
pub record Stands (c : ℕ) (sessions : List Session) (at : ℕ) : Type 0 where
  pub place : IsPlace c sessions at
  pub within : at < length sessions
  pub session : session_of c sessions ≡ slice_get sessions at
