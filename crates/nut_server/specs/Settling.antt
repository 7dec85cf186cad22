-- Which connections are unsettled: bytes wait for them, or they are to be closed.
use Rattle.std.specs.Prelude.{◌≡◌, ℕ, ◌<◌, ◌≤◌, nat_lt, nat_le, Bool, false, ◌||◌, ◌&&◌, IsTrue, List, [], length, Option, Some, None}
use Rattle.nut_server_spec.specs.Content.{Session, Supply}
use Rattle.nut_server_spec.specs.Acceptance.{session_of, waiting_in, leaves, asks_of}

-- whether the connection is unsettled: bytes wait for it, or it is to be closed
abbrev pub is_unsettled : Option Session → Bool
is_unsettled o = nat_lt 0 (length (waiting_in o)) || leaves o

-- whether the connection is unsettled and its number is at least `least`
abbrev pub settles : ℕ → Session → Bool
settles least k = nat_le least k.number && is_unsettled (Some k)

-- The result is the least number, from `least` on, of an unsettled connection, or none if there is none.
abbrev pub IsNextUnsettled : List Session → ℕ → Option ℕ → Type 0
IsNextUnsettled sessions least None = (d : ℕ) → least ≤ d → is_unsettled (session_of d sessions) ≡ false
IsNextUnsettled sessions least (Some c) =
    (least ≤ c) × IsTrue (is_unsettled (session_of c sessions))
    × ((d : ℕ) → least ≤ d → d < c → is_unsettled (session_of d sessions) ≡ false)

-- The result is the least number, from `least` on, of a UPS for whose driver bytes wait, or none if there is none.
abbrev pub IsNextWaiting : List Supply → ℕ → Option ℕ → Type 0
IsNextWaiting supplies least None = (u : ℕ) → least ≤ u → asks_of u supplies ≡ []
IsNextWaiting supplies least (Some u) =
    (least ≤ u) × (0 < length (asks_of u supplies)) × ((v : ℕ) → least ≤ v → v < u → asks_of v supplies ≡ [])
