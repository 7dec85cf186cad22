-- For private functions, nothing here has to be believed: how the key of a connection's socket is found.
use Rattle.std.specs.Prelude.{◌≡◌, ◌<◌, ℕ, List, length, get_or, Some}
use Rattle.slab.specs.Slab.{Slab}
use Rattle.nut_server_sockets.specs.declared.client.Client.{Client}
use Rattle.nut_server_sockets.specs.Seats.{number_at}

-- Each number in the list belongs to the socket with the key beside it.
abbrev pub AreNamed : List (ℕ × ℕ) → Slab Client → Type 0
AreNamed keys sockets = (i : ℕ) → i < length keys → number_at sockets (get_or keys i (0, 0)).1 ≡ Some (get_or keys i (0, 0)).0

-- No key is in the list twice.
abbrev pub AreApart : List (ℕ × ℕ) → Type 0
AreApart keys = (i j : ℕ) → i < length keys → j < length keys → (get_or keys i (0, 0)).1 ≡ (get_or keys j (0, 0)).1 → i ≡ j
