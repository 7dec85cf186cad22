-- A world over memory: the events left to give, and its notes.
use Rattle.std.specs.Prelude.{◌≡◌, ℕ, List, [], ◌∷◌, ◌++◌, map, reverse, Some}
use Rattle.nut_monitor_spec.specs.Event.{Event}
use Rattle.nut_monitor_spec.specs.Event as event
use Rattle.nut_monitor_loop.specs.Record.{event_given}
use Rattle.nut_monitor_loop.specs.Record as entry
use Rattle.nut_monitor_loop.specs.declared.types.Given.{Given}
use Rattle.nut_monitor_loop.specs.declared.types.Given.TheVariants.{Moment, Linked, LinkBytes, LinkLost}
use Rattle.nut_monitor_loop.specs.declared.types.Note.{Note}
use Rattle.nut_monitor_loop.specs.declared.types.Note.TheVariants.{Gave, Took, Closed, Told}
use Rattle.nut_monitor_loop.specs.declared.types.Next.{Next}
use Rattle.nut_monitor_loop.specs.declared.types.Next.TheVariants as next

-- A world over memory as its callers see it: the events left to give; what it did, the newest first; and how many of
-- its calls returned a fault.
pub record MemoryState : Type 0 where
  pub left : List Given
  pub log : List entry.Entry
  pub faults : ℕ

-- an event of the code as one of the definitions
abbrev pub event_of : Given → Event
event_of (Moment t) = event.Moment t
event_of (Linked i) = event.Linked i
event_of (LinkBytes i piece) = event.LinkBytes i piece.items
event_of (LinkLost i) = event.LinkLost i

-- a note as an entry of the record
abbrev pub entry_of : Note → entry.Entry
entry_of (Gave given) = entry.Gave (event_of given)
entry_of (Took i bytes) = entry.TookBytes i bytes.items
entry_of (Closed i) = entry.WasClosed i
entry_of (Told notice) = entry.WasTold notice

-- the notes as a record, the newest first
abbrev pub log_of : List Note → List entry.Entry
log_of notes = reverse (map entry_of notes)

-- The first event that is left is given and removed from the list; if none is left, the end is given.
abbrev pub Gives : List Given → List Given → Next → List ℕ → Type 0
Gives [] new n items = (n ≡ next.End) × (new ≡ [])
Gives (given ∷ rest) new n items = (event_given n items ≡ Some (event_of given)) × (new ≡ rest)

-- the events that these entries gave, the oldest first
abbrev pub given_in : List entry.Entry → List Event
given_in [] = []
given_in (entry.Gave e ∷ r) = given_in r ++ e ∷ []
given_in (e ∷ r) = given_in r

-- The log grew by these entries. The events that were left are those that these gave, followed by those that are left now.
pub record GoesOn (old new : MemoryState) (more : List entry.Entry) : Type 0 where
  pub grown : new.log ≡ more ++ old.log
  pub each : map event_of old.left ≡ given_in more ++ map event_of new.left
