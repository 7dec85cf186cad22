-- Who is looked at before something comes, and when a second is told.
use Rattle.std.specs.Prelude.{◌≡◌, ◌⊎◌, ℕ, ◌+◌, ◌<◌, nat_lt, ◌&&◌, ◌||◌, true, false, Option, Some, None, List, [], ◌∷◌, ◌++◌}
use Rattle.std.specs.Option.{option_map_or}
use Rattle.nut_conf.specs.declared.limits.TheConstants.{LISTENERS_MAX}
use Rattle.nut_poll.specs.Moments.{IsTold}
use Rattle.nut_poll.specs.Queue.{is_waiting}
use Rattle.nut_poll.specs.Turns.{Heeds, TakesTurns}
use Rattle.nut_poll.specs.declared.ready.TheConstants.{SOCKETS_MAX}
use Rattle.nut_poll.specs.declared.rounds.Rounds.{Rounds}
use Rattle.nut_server_loop.specs.declared.types.Next.{Next}
use Rattle.nut_server_loop.specs.declared.types.Next.TheVariants.{Moment, Bytes, Close, DriverBytes, Reload}
use Rattle.nut_server_spec.specs.Content.{Content}
use Rattle.slab.specs.Slab.{Slab, get}
use Rattle.nut_server_sockets.specs.Seats.{HasBesides, IsSilent, KeepsSeats, MakesWay, is_due, number_at}
use Rattle.nut_server_sockets.specs.declared.client.Client as client
use Rattle.nut_server_sockets.specs.declared.sockets.Sockets.{Sockets}
use Rattle.nut_server_sockets.specs.declared.source.Source.{Source}
use Rattle.nut_server_sockets.specs.declared.source.Source.TheVariants.{Listener, Driver, Client}
use Rattle.nut_server_sockets.specs.declared.source.TheConstants.{FIXED_MAX}

-- the token of a source
abbrev pub token_of : Source → ℕ
token_of (Listener i) = i
token_of (Driver u) = LISTENERS_MAX + u
token_of (Client key) = FIXED_MAX + key

-- The socket with this token is that of this connection.
abbrev pub IsSocketOf : Slab client.Client → ℕ → ℕ → Type 0
IsSocketOf sockets token c = (key : ℕ) × (token ≡ FIXED_MAX + key) × (number_at sockets key ≡ Some c)

-- The source with this token gave this: a piece of a client, or the end of its connection, the socket of this very client; a
-- piece of a driver that of this driver; none a moment or a reload. A client that calls may have the connection of another closed.
abbrev pub IsGivenBy : Slab client.Client → Content → ℕ → Next → Type 0
IsGivenBy sockets s token (Bytes c) = IsSocketOf sockets token c
IsGivenBy sockets s token (Close c) = IsSocketOf sockets token c ⊎ MakesWay s c
IsGivenBy sockets s token (DriverBytes u) = token ≡ LISTENERS_MAX + u
IsGivenBy sockets s token (Moment m) = ⊥
IsGivenBy sockets s token (Reload config) = ⊥
IsGivenBy sockets s token n = Unit {0}

-- This came of no source: no piece did, and a connection is closed so if its socket couldn't be kept, if it makes way, or if its
-- client was silent for too long.
abbrev pub IsUnasked : Sockets → Content → Next → Type 0
IsUnasked old s (Bytes c) = ⊥
IsUnasked old s (DriverBytes u) = ⊥
IsUnasked old s (Close c) = (old.unkept ≡ Some c) ⊎ MakesWay s c ⊎ IsSilent s old.clients.second old.clients.sockets c
IsUnasked old s n = Unit {0}

-- the second that this tells
abbrev pub moment_of : Next → Option ℕ
moment_of (Moment m) = Some m
moment_of n = None

-- The last of these sources gave this.
abbrev pub IsOfLast : Slab client.Client → Content → Next → List ℕ → Type 0
IsOfLast sockets s n looked = (others : List ℕ) × (last : ℕ) × (looked ≡ others ++ last ∷ []) × IsGivenBy sockets s last n

-- If this closes a connection, the sockets are those that there were but for its own; else they are the same.
abbrev pub LeavesOthers : Next → Slab client.Client → Slab client.Client → Type 0
LeavesOthers (Close c) old new = HasBesides c old new
LeavesOthers n old new = KeepsSeats old new

-- Sources came to wait behind all others, and the clock wasn't looked at.
abbrev pub Comes : Rounds → Rounds → Type 0
Comes old new = Heeds [] old new × (new.seconds ≡ old.seconds)

-- Sources were looked at in turn until this came, of the last of them or of none. A second was told as soon as the clock was seen
-- to be past it. A driver of which a piece was read waits for the next look.
abbrev pub ComesInTurn : Sockets → Content → Next → Sockets → Type 0
ComesInTurn old s n new =
    ((looked : List ℕ) × Heeds looked old.rounds new.rounds × (IsUnasked old s n ⊎ IsOfLast old.clients.sockets s n looked))
    × IsTold (moment_of n) old.rounds.seconds.full new.rounds.seconds.full
    × ((u : ℕ) → n ≡ DriverBytes u → LISTENERS_MAX + u < SOCKETS_MAX → is_waiting (LISTENERS_MAX + u) new.rounds.ready.waiting ≡ true)

-- If the client with this key is due, it waits in the queue, or is put aside until drivers were heard.
abbrev pub IsHeeded : Sockets → ℕ → Type 0
IsHeeded s key = FIXED_MAX + key < SOCKETS_MAX → option_map_or is_due (get s.clients.sockets key) false ≡ true →
    (is_waiting (FIXED_MAX + key) s.rounds.ready.waiting
    || (nat_lt 0 s.stall.seconds && is_waiting (FIXED_MAX + key) s.stall.clients.waiting)) ≡ true

-- Sources were looked at in turn, however many, and each client that was heeded is so still.
abbrev pub GoesOn : Sockets → Sockets → Type 0
GoesOn old new = TakesTurns old.rounds new.rounds × ((key : ℕ) → IsHeeded old key → IsHeeded new key)
