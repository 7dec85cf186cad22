-- Who waits to be looked at, and in what order.
use Rattle.std.specs.Prelude.{◌≡◌, ℕ, zero, suc, ◌+◌, ◌&&◌, Bool, not, nat_eq, nat_lt, List, [], ◌∷◌, ◌++◌, length, map, Option, Some, None, if◌then◌else◌}
use Rattle.std.specs.List.{list_any}
use Rattle.mio.specs.Event.{event_token}
use Rattle.mio.specs.declared.event.event.Event.{Event}
use Rattle.mio.specs.declared.token.Token.{Token}
use Rattle.nut_poll.specs.declared.ready.TheConstants.{SOCKETS_MAX}

-- the tokens of the sources that wait, from the one that is next, and how many of them have their turn in this round
pub record Queue : Type 0 where
  pub waiting : List ℕ
  pub round : ℕ

-- whether the source with this token waits
abbrev pub is_waiting : ℕ → List ℕ → Bool
is_waiting n waiting = list_any (nat_eq n) waiting

-- what becomes of the queue when a source comes: it waits behind all others, unless it waits already
abbrev pub joined : ℕ → Queue → Queue
joined n q = if nat_lt n SOCKETS_MAX && not (is_waiting n q.waiting) then record { waiting = q.waiting ++ n ∷ []; round = q.round } else q

-- the same when these come, in this order
abbrev pub all_joined : List ℕ → Queue → Queue
all_joined [] q = q
all_joined (n ∷ ns) q = all_joined ns (joined n q)

-- the tokens of the sources that have these events
abbrev pub reported : List Event → List ℕ
reported events = map (λ e. (event_token e).0) events

-- the same when the first sources come, so many of them
abbrev pub first_joined : ℕ → Queue → Queue
first_joined zero q = q
first_joined (suc n) q = joined n (first_joined n q)

-- what becomes of the queue when a round begins: all that wait have their turn in it
abbrev pub begun : Queue → Queue
begun q = record { waiting = q.waiting; round = length q.waiting }

-- The next source has its turn, unless the round is over.
abbrev pub IsTaken : Option Token → Queue → Queue → Type 0
IsTaken None old new = (old.round ≡ 0) × (new ≡ old)
IsTaken (Some token) old new = (old.waiting ≡ token.0 ∷ new.waiting) × (old.round ≡ new.round + 1)

-- These were looked at, in this order: the first of those that waited, and then of those that came.
abbrev pub Looks : List ℕ → Queue → Queue → Type 0
Looks looked old new = (came : List ℕ) × (looked ++ new.waiting ≡ old.waiting ++ came)
