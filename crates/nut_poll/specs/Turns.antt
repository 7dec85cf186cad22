-- Nobody is passed over: laws of lists of looks.
use Rattle.std.specs.Prelude.{◌≡◌, ◌⊎◌, ℕ, ◌<◌, false, true, nat_eq, List, ◌∷◌, ◌++◌, length}
use Rattle.std.specs.List.{filter, IsDistinct}
use Rattle.mio.specs.Events.{items}
use Rattle.nut_poll.specs.Queue.{Queue, Looks, is_waiting, reported}
use Rattle.nut_poll.specs.declared.ready.TheConstants.{SOCKETS_MAX}
use Rattle.nut_poll.specs.declared.rounds.Rounds.{Rounds}

-- These were looked at, in this order, and others came to wait behind all. Each source that the last poll reported waits or was
-- looked at, unless it was reported before.
abbrev pub Heeds : List ℕ → Rounds → Rounds → Type 0
Heeds looked old new = Looks looked old.ready new.ready × ((n : ℕ) → n < SOCKETS_MAX → is_waiting n (reported (items new.events)) ≡ true →
    (new.events ≡ old.events) ⊎ (is_waiting n (looked ++ new.ready.waiting) ≡ true))

-- Sources were looked at in turn, however many, and each that the poll reported waits or was looked at.
abbrev pub TakesTurns : Rounds → Rounds → Type 0
TakesTurns old new = (looked : List ℕ) × Heeds looked old new

-- The looks of two runs, one after the other, are those of one run.
abbrev pub LooksGoOn : Type 0
LooksGoOn = (before after : List ℕ) (a b c : Queue) → Looks before a b → Looks after b c → Looks (before ++ after) a c

-- Before a source that doesn't wait is looked at, all that wait are, each in its turn. A source doesn't wait when it was just
-- looked at: so between two looks at it, each other that waited had one.
abbrev pub NobodyIsPassedOver : Type 0
NobodyIsPassedOver = (one : ℕ) (before after : List ℕ) (a b : Queue) → is_waiting one a.waiting ≡ false →
    Looks (before ++ one ∷ after) a b → (more : List ℕ) × (before ≡ a.waiting ++ more)

-- A source that waits is looked at after those that waited before it, and before all others.
abbrev pub EachHasItsTurn : Type 0
EachHasItsTurn = (one : ℕ) (before after looked : List ℕ) (a b : Queue) → a.waiting ≡ before ++ one ∷ after →
    Looks looked a b → length before < length looked → (more : List ℕ) × (looked ≡ before ++ one ∷ more)

-- Of those that it waits for, fewer are among any sources than these are, if it is one of them: with 256 clients and 32 drivers,
-- at most 287 others.
abbrev pub OthersComeOnce : Type 0
OthersComeOnce = (one : ℕ) (before after sources : List ℕ) → IsDistinct nat_eq (before ++ one ∷ after) →
    is_waiting one sources ≡ true → length (filter (λ n. is_waiting n sources) before) < length sources
