-- The world over memory: what it has left to give, and what it noted.
use Rattle.std.specs.Prelude.{◌≡◌, ℕ, ◌+◌, Bool, true, List, [], ◌∷◌, ◌++◌, map, reverse, remove, count_by, slice_get, position, Option, Some, None}
use Rattle.nut_server_spec.specs.Event.{Event}
use Rattle.nut_server_spec.specs.Event as event
use Rattle.nut_server_spec.specs.Content.{Content}
use Rattle.nut_server_spec.specs.Acceptance.{session_of, may_read}
use Rattle.nut_server_loop.specs.Record.{arrival_of}
use Rattle.nut_server_loop.specs.Record as entry
use Rattle.nut_server_loop.specs.declared.types.Given.{Given}
use Rattle.nut_server_loop.specs.declared.types.Given.TheVariants.{Moment, Open, Bytes, Close, DriverUp, DriverBytes, DriverDown}
use Rattle.nut_server_loop.specs.declared.types.Note.{Note}
use Rattle.nut_server_loop.specs.declared.types.Note.TheVariants.{Gave, Took, Closed}
use Rattle.nut_server_loop.specs.declared.types.Next.{Next}
use Rattle.nut_server_loop.specs.declared.types.Next.TheVariants as next

-- The world over memory as its callers see it: the arrivals left to give; what it did, the newest first; and how many
-- of its calls returned a fault.
pub record MemoryState : Type 0 where
  pub left : List Given
  pub log : List entry.Entry
  pub faults : ℕ

-- the event that an arrival stands for
abbrev pub event_of_given : Given → Event
event_of_given (Moment t) = event.Moment t
event_of_given (Open address) = event.Open address.items
event_of_given (Bytes c piece) = event.Bytes c piece.items
event_of_given (Close c) = event.Close c
event_of_given (DriverUp u) = event.DriverUp u
event_of_given (DriverBytes u piece) = event.DriverBytes u piece.items
event_of_given (DriverDown u) = event.DriverDown u

-- the entry of the record that a note stands for
abbrev pub entry_of : Note → entry.Entry
entry_of (Gave given) = entry.Gave (event_of_given given)
entry_of (Took p bytes) = entry.TookBytes p bytes.items
entry_of (Closed p) = entry.WasClosed p

-- what was noted, the newest first
abbrev pub log_of : List Note → List entry.Entry
log_of notes = reverse (map entry_of notes)

-- whether an arrival may come: all may, except bytes of a connection that may not be read
abbrev pub may_come : Content → Event → Bool
may_come s (event.Bytes c piece) = may_read (session_of c s.sessions)
may_come s e = true

-- the place of the first arrival that may come, if there is one
abbrev pub first_coming : Content → List Given → Option ℕ
first_coming s left = position (λ given. may_come s (event_of_given given)) left

-- The arrival at this place was given and isn't left any more. If there is no place, the end was given.
abbrev pub GivesAt : Option ℕ → List Given → List Given → Next → List ℕ → Type 0
GivesAt None old new n items = (n ≡ next.End) × (new ≡ old)
GivesAt (Some i) old new n items =
    (given : Given) × (slice_get old i ≡ Some given) × (arrival_of n items ≡ Some (event_of_given given)) × (new ≡ remove old i)

-- the arrivals in these entries
abbrev pub gave_of : List entry.Entry → List Event
gave_of [] = []
gave_of (entry.Gave e ∷ r) = e ∷ gave_of r
gave_of (e ∷ r) = gave_of r

-- Each arrival is in the first list as often as in the other two together.
abbrev pub StandIn : List Event → List Event → List Event → Type 0
StandIn arrivals given left = (p : Event → Bool) → count_by p arrivals ≡ count_by p given + count_by p left

-- The log grew by some entries. Each arrival that was left is, as often as before, in these entries or still left.
pub record GoesOn (old new : MemoryState) : Type 0 where
  pub more : List entry.Entry
  pub grown : new.log ≡ more ++ old.log
  pub each : StandIn (map event_of_given old.left) (gave_of more) (map event_of_given new.left)
