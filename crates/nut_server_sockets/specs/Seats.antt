-- Whose socket is whose, which clients are due for a read, and which connections are closed unasked.
use Rattle.std.specs.Prelude.{◌≡◌, ◌≢◌, ◌⊎◌, ◌<◌, ◌+◌, ◌==◌, ◌&&◌, ◌||◌, not, ℕ, Bool, true, false, is_some, if◌then◌else◌, Option, Some, None, option_map}
use Rattle.std.specs.Option.{option_map_or}
use Rattle.slab.specs.Slab.{Slab, get}
use Rattle.nut_server.specs.Seats.{is_stranger, makes_way}
use Rattle.nut_server_spec.specs.Acceptance.{session_of, has_login}
use Rattle.nut_server_spec.specs.Content.{Content}
use Rattle.nut_server_sockets.specs.declared.client.Client.{Client}
use Rattle.nut_server_sockets.specs.declared.client.TheConstants.{PATIENCE, PATIENCE_WITH_LOGIN}

-- the number of the connection whose socket has this key, if there is one
abbrev pub number_at : Slab Client → ℕ → Option ℕ
number_at sockets key = option_map (λ k. k.number) (get sockets key)

-- Each socket is that of the same connection as before.
abbrev pub KeepsSeats : Slab Client → Slab Client → Type 0
KeepsSeats old new = (key : ℕ) → number_at new key ≡ number_at old key

-- Each socket of the second is that of the same connection in the first, which has besides only sockets of this connection.
abbrev pub HasBesides : ℕ → Slab Client → Slab Client → Type 0
HasBesides c more fewer = (key : ℕ) → (number_at fewer key ≡ number_at more key) ⊎ ((number_at more key ≡ Some c) × (number_at fewer key ≡ None))

-- Nothing was done to the socket of another connection than this one.
abbrev pub TouchesOnly : ℕ → Slab Client → Slab Client → Type 0
TouchesOnly c old new = (key : ℕ) → (number_at new key ≡ number_at old key) × (number_at old key ≢ Some c → get new key ≡ get old key)

-- whether a read of this client may find something, and isn't put off until it takes some of an answer
abbrev pub is_due : Client → Bool
is_due k = not k.is_parked && (k.link.has_more || is_some k.held)

-- whether the client of this connection isn't logged in, and has not given the name and the password of a user
abbrev pub is_stranger_at : Content → ℕ → Bool
is_stranger_at s c = option_map_or (is_stranger s.configuration.users) (session_of c s.sessions) false

-- This connection is one that may be closed if `first` may: its client isn't logged in, and is a stranger if that of `first` is.
abbrev pub MayLeave : Content → ℕ → ℕ → Type 0
MayLeave s first c = (has_login (session_of c s.sessions) ≡ false) × (is_stranger_at s first ≡ true → is_stranger_at s c ≡ true)

-- This connection makes way for a client that calls: the server is full, and the connection is one that may be closed.
abbrev pub MakesWay : Content → ℕ → Type 0
MakesWay s c = (first : ℕ) × (makes_way s ≡ Some first) × MayLeave s first c

-- the second in which a client was heard last, or in which it came
abbrev pub last_heard : Client → ℕ
last_heard k = if k.spoke == 0 then k.since else k.spoke

-- how many seconds of silence the client of this connection is allowed
abbrev pub allowed_silence : Content → ℕ → ℕ
allowed_silence s c = if has_login (session_of c s.sessions) then PATIENCE_WITH_LOGIN else PATIENCE

-- In this second, the client of this connection has been silent for longer than it may.
abbrev pub IsSilent : Content → ℕ → Slab Client → ℕ → Type 0
IsSilent s second sockets c =
    (key : ℕ) × (k : Client) × (get sockets key ≡ Some k) × (k.number ≡ c) × (last_heard k + allowed_silence s c < second)
