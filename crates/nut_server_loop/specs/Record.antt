-- The record of a world: a list of entries, the newest first.
use Rattle.std.specs.Prelude.{◌≡◌, ◌≢◌, ◌<◌, ◌+◌, ℕ, Bool, true, false, ◌==◌, ◌||◌, List, [], ◌∷◌, length, take, Option, Some, None, option_map, Result, IfOk, OnErr, is_ok, if◌then◌else◌}
use Rattle.nut_server_spec.specs.Event.{Event}
use Rattle.nut_server_spec.specs.Event as event
use Rattle.nut_server_spec.specs.Content.{Content}
use Rattle.nut_server_spec.specs.Acceptance.{session_of, waiting_of, asks_of, may_read, leaves}
use Rattle.nut_server_loop.specs.declared.types.Next.{Next}
use Rattle.nut_server_loop.specs.declared.types.Next.TheVariants.{Moment, Open, Bytes, Close, DriverUp, DriverBytes, DriverDown, Reload, Again, End}
use Rattle.nut_server_loop.specs.declared.types.Peer.{Peer}
use Rattle.nut_server_loop.specs.declared.types.Peer.TheVariants.{Connection, Driver}
use Rattle.nut_io.specs.declared.types.Written.{Written}
use Rattle.nut_io.specs.declared.types.Written.TheVariants.{Took, Later, Failed}

pub data Entry : Type 0 where
  -- it gave this arrival
  Gave : (e : Event) → Entry
  -- it took these bytes, in a write to this peer
  TookBytes : (p : Peer) (bytes : List ℕ) → Entry
  -- a write to it is to come later
  WasLate : (p : Peer) → Entry
  -- a write to it failed
  WriteBroke : (p : Peer) → Entry
  -- it closed the connection, or the link to the driver
  WasClosed : (p : Peer) → Entry

-- the record after one entry more; a world without a record has none afterwards either
abbrev pub tells : Entry → Option (List Entry) → Option (List Entry)
tells entry o = option_map (λ entries. entry ∷ entries) o

-- the arrival that `next` gave, if it gave one, with these bytes in the piece
abbrev pub arrival_of : Next → List ℕ → Option Event
arrival_of (Moment t) piece = Some (event.Moment t)
arrival_of Open piece = Some (event.Open piece)
arrival_of (Bytes c) piece = Some (event.Bytes c piece)
arrival_of (Close c) piece = Some (event.Close c)
arrival_of (DriverUp u) piece = Some (event.DriverUp u)
arrival_of (DriverBytes u) piece = Some (event.DriverBytes u piece)
arrival_of (DriverDown u) piece = Some (event.DriverDown u)
arrival_of (Reload configuration) piece = Some (event.Reload configuration.value)
arrival_of Again piece = None
arrival_of End piece = None

-- whether `next` gave a new configuration
abbrev pub is_reload : Next → Bool
is_reload (Reload configuration) = true
is_reload n = false

-- the record after an arrival was given, if one was
abbrev pub tells_arrival : Option Event → Option (List Entry) → Option (List Entry)
tells_arrival None o = o
tells_arrival (Some e) o = tells (Gave e) o

-- the record after `next` gave this, with these bytes in the piece
abbrev pub tells_next : Next → List ℕ → Option (List Entry) → Option (List Entry)
tells_next n piece o = tells_arrival (arrival_of n piece) o

-- the record after a write of these bytes to a peer
abbrev pub tells_write : Written → Peer → List ℕ → Option (List Entry) → Option (List Entry)
tells_write (Took n) p bytes o = tells (TookBytes p (take n bytes)) o
tells_write Later p bytes o = tells (WasLate p) o
tells_write Failed p bytes o = tells (WriteBroke p) o

-- What a call that returned this did to the record: at a fault it is as it was, and one more fault is counted.
pub record Steps {W R E : Type 0} (faults : W → ℕ) (log : W → Option (List Entry)) (Reached : W → W → Type 0)
    (told : R → Option (List Entry) → Option (List Entry)) (before : W) (result : Result R E) (after : W) : Type 0 where
  pub ok : IfOk result (λ r. log after ≡ told r (log before))
  pub err : OnErr result (log after ≡ log before)
  pub counted : faults after ≡ (if is_ok result then faults before else faults before + 1)
  pub reached : Reached before after

-- whether these two are the same peer
abbrev pub is_peer : Peer → Peer → Bool
is_peer (Connection c) (Connection d) = c == d
is_peer (Driver u) (Driver v) = u == v
is_peer p q = false

-- whether q is late after a write to p: it was late before, or it is p and the write is to come later
abbrev pub late_after : Written → Peer → (Peer → Bool) → Peer → Bool
late_after Later p late q = late q || is_peer q p
late_after w p late q = late q

-- whether a write to this peer was to come later, by these entries, the newest first, and since the last arrival
abbrev pub late_in : List Entry → Peer → Bool
late_in [] q = false
late_in (Gave e ∷ r) q = false
late_in (WasLate p ∷ r) q = late_in r q || is_peer q p
late_in (entry ∷ r) q = late_in r q

-- What `next` leads to: the world waits for the answer to the arrival that it gave, if it gave one.
abbrev pub LeadsTo : Option Event → Type 0 → Type 0 → Type 0
LeadsTo arrival awaits reached = (arrival ≢ None → awaits) × (arrival ≡ None → reached)

-- Bytes are given only of connections that may be read.
abbrev pub MayCome : Next → Content → Type 0
MayCome (Bytes c) s = may_read (session_of c s.sessions) ≡ true
MayCome n s = Unit {0}

-- the bytes that wait for a peer
abbrev pub waits_of : Peer → Content → List ℕ
waits_of (Connection c) s = waiting_of c s.sessions
waits_of (Driver u) s = asks_of u s.supplies

-- If bytes wait for this peer, it is late.
abbrev pub IsSettled : (Peer → Bool) → Content → Peer → Type 0
IsSettled late s p = 0 < length (waits_of p s) → late p ≡ true

-- Each peer for which bytes wait is late.
abbrev pub NothingIsWithheld : (Peer → Bool) → Content → Type 0
NothingIsWithheld late s = (p : Peer) → IsSettled late s p

-- whether a peer is to be closed: a connection that has logged out and for which nothing waits
abbrev pub leaves_at : Peer → Content → Bool
leaves_at (Connection c) s = leaves (session_of c s.sessions)
leaves_at (Driver u) s = false

-- No connection is open that has logged out and for which nothing waits.
abbrev pub NobodyLeaves : Content → Type 0
NobodyLeaves s = (p : Peer) → leaves_at p s ≡ false
