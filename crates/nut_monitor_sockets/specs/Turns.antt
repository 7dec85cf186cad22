-- In which order a monitor's links are looked at, and who waits.
use Rattle.std.specs.Prelude.{◌≡◌, ◌≢◌, ◌<◌, ℕ, Bool, true, false, List, [], ◌∷◌, ◌++◌, Option, Some, None, IfSome, slice_get}
use Rattle.nut_poll.specs.Queue.{is_waiting}
use Rattle.nut_poll.specs.Turns.{Heeds}
use Rattle.nut_poll.specs.declared.ready.TheConstants.{SOCKETS_MAX}
use Rattle.nut_monitor_loop.specs.declared.types.Next.{Next}
use Rattle.nut_monitor_loop.specs.declared.types.Next.TheVariants.{LinkBytes}
use Rattle.nut_monitor_sockets.specs.declared.links.Links.{Links}
use Rattle.nut_monitor_sockets.specs.declared.upstream.LinkStage.{LinkStage}
use Rattle.nut_monitor_sockets.specs.declared.upstream.Upstream.{Upstream}
use Rattle.nut_monitor_sockets.specs.declared.upstream.LinkStage.TheVariants.{Down, Calling, Up}

-- whether there may be something to read, if a link is made
abbrev pub unread : LinkStage → Option Bool
unread Down = None
unread (Calling link waited) = None
unread (Up link answered) = Some link.has_more

-- If there may be something to read on the link with this number, it waits.
abbrev pub WaitsUnread : ℕ → Links → Type 0
WaitsUnread i links = i < SOCKETS_MAX → IfSome (slice_get links.upstreams.items i)
    (λ u. unread u.stage ≡ Some true → is_waiting i links.rounds.ready.waiting ≡ true)

-- After a look at this link it waits if there may still be something to read, and each other does if it did before.
abbrev pub LeavesNone : ℕ → Links → Links → Type 0
LeavesNone i old new = (k : ℕ) → (k ≢ i → WaitsUnread k old) → WaitsUnread k new

-- If a link is made here, an event was noted of it.
abbrev pub IsNoted : Option Upstream → Type 0
IsNoted upstream = IfSome upstream (λ u. unread u.stage ≢ Some false)

-- If this is a piece, the link with this number gave it.
abbrev pub IsGivenBy : ℕ → Next → Type 0
IsGivenBy i (LinkBytes j) = i ≡ j
IsGivenBy i n = Unit {0}

-- If this is a piece, the last of these links gave it, which waits again if there may still be something to read on it.
abbrev pub IsOfLast : Next → List ℕ → Links → Type 0
IsOfLast (LinkBytes i) looked links = (others : List ℕ) × (looked ≡ others ++ i ∷ []) × WaitsUnread i links
IsOfLast n looked links = Unit {0}

-- Links were looked at in turn until this came.
abbrev pub ComesInTurn : Next → Links → Links → Type 0
ComesInTurn n old new = (looked : List ℕ) × Heeds looked old.rounds new.rounds × IsOfLast n looked new
