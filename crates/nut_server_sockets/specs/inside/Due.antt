-- For private functions, nothing here has to be believed: what becomes of the clients that are due for a read.
use Rattle.std.specs.Prelude.{◌≡◌, ◌≢◌, ℕ, Bool, true, false, IfSome}
use Rattle.std.specs.Option.{option_map_or}
use Rattle.slab.specs.Slab.{Slab, get}
use Rattle.nut_server_sockets.specs.Seats.{is_due}
use Rattle.nut_server_sockets.specs.declared.client.Client.{Client}

-- whether the client whose socket has this key is due, if there is one
abbrev pub is_due_at : Slab Client → ℕ → Bool
is_due_at sockets key = option_map_or is_due (get sockets key) false

-- No client is due that wasn't.
abbrev pub NoMoreAreDue : Slab Client → Slab Client → Type 0
NoMoreAreDue old new = (key : ℕ) → is_due_at new key ≡ true → is_due_at old key ≡ true

-- A read of the client with this key may find something, if there is one.
abbrev pub HasMore : Slab Client → ℕ → Type 0
HasMore sockets key = IfSome (get sockets key) (λ k. k.link.has_more ≡ true)

-- Nothing was done to a client whose socket has another key.
abbrev pub ChangesOnly : ℕ → Slab Client → Slab Client → Type 0
ChangesOnly key old new = (other : ℕ) → other ≢ key → get new other ≡ get old other
