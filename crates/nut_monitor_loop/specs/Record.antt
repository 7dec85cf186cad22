-- What a world states about itself: a list of entries, the newest first.
use Rattle.std.specs.Prelude.{◌≡◌, ◌≢◌, ◌<◌, ℕ, Bool, true, List, [], ◌∷◌, ◌++◌, length, take, Option, Some, None}
use Rattle.nut_monitor_spec.specs.declared.Notice.{Notice}
use Rattle.nut_monitor_spec.specs.Event.{Event}
use Rattle.nut_monitor_spec.specs.Event as event
use Rattle.nut_monitor_spec.specs.Content.{Watch, Content}
use Rattle.nut_monitor_spec.specs.Acceptance.{watch_at, waiting_on}
use Rattle.nut_io.specs.declared.types.Written.{Written}
use Rattle.nut_io.specs.declared.types.Written.TheVariants.{Took, Later, Failed}
use Rattle.nut_monitor_loop.specs.declared.types.Next.{Next}
use Rattle.nut_monitor_loop.specs.declared.types.Next.TheVariants.{Moment, Linked, LinkBytes, LinkLost, Again, End}

pub data Entry : Type 0 where
  -- it gave this event
  Gave : (e : Event) → Entry
  -- it took these bytes of a write to link i
  TookBytes : (i : ℕ) (bytes : List ℕ) → Entry
  -- it took none of the bytes of a write to link i, which may be tried later
  WasLate : (i : ℕ) → Entry
  -- a write to link i failed
  WriteBroke : (i : ℕ) → Entry
  -- it closed link i
  WasClosed : (i : ℕ) → Entry
  -- it was handed this notice
  WasTold : (notice : Notice) → Entry

-- the event that `next` gave by this value, with these bytes in the piece
abbrev pub event_given : Next → List ℕ → Option Event
event_given (Moment t) piece = Some (event.Moment t)
event_given (Linked i) piece = Some (event.Linked i)
event_given (LinkBytes i) piece = Some (event.LinkBytes i piece)
event_given (LinkLost i) piece = Some (event.LinkLost i)
event_given Again piece = None
event_given End piece = None

abbrev pub giving : Option Event → List Entry
giving None = []
giving (Some e) = Gave e ∷ []

-- what `next` leaves in the record if it gave this value, with these bytes in the piece
abbrev pub given_by : Next → List ℕ → List Entry
given_by n piece = giving (event_given n piece)

-- What `next` leads to, after these entries: the world waits to hear what became of the event that it gave, if it gave one.
abbrev pub LeadsTo : Next → List ℕ → (List Entry → Type 0) → (List Entry → Type 0) → List Entry → Type 0
LeadsTo n piece Awaits Did entries =
    (event_given n piece ≢ None → Awaits (given_by n piece ++ entries)) × (event_given n piece ≡ None → Did entries)

-- what a write of these bytes to link i leaves in the record
abbrev pub written_by : Written → ℕ → List ℕ → Entry
written_by (Took n) i bytes = TookBytes i (take n bytes)
written_by Later i bytes = WasLate i
written_by Failed i bytes = WriteBroke i

-- what waits on link i; nothing if it isn't up
abbrev pub waiting_of : ℕ → List Watch → List ℕ
waiting_of i watches = waiting_on (watch_at i watches)

-- nothing waits on link i, or it is late
abbrev pub IsSettled : (ℕ → Bool) → List Watch → ℕ → Type 0
IsSettled late watches i = 0 < length (waiting_of i watches) → late i ≡ true

-- every link with waiting bytes is late
abbrev pub NothingIsWithheld : (ℕ → Bool) → Content → Type 0
NothingIsWithheld late s = (i : ℕ) → IsSettled late s.watches i
