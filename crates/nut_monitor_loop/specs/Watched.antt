-- How the history of a monitor follows from the record of its world.
use Rattle.std.specs.Prelude.{◌≡◌, ◌==◌, ℕ, List, [], ◌∷◌, ◌++◌, length, map, Option, Some, None, Result, if◌then◌else◌}
use Rattle.nut_conf.specs.declared.upsmon.MonConfig.{MonConfig}
use Rattle.nut_monitor_spec.specs.declared.MonitorFault.{MonitorFault}
use Rattle.nut_monitor_spec.specs.declared.Notice.{Notice}
use Rattle.nut_monitor_spec.specs.Configuration.{Configuration}
use Rattle.nut_monitor_spec.specs.Event.{Event, LinkBytes, LinkLost, LinkTook, NoticeTaken}
use Rattle.nut_monitor_spec.specs.Trace.{trace, sent, notices, since_linked}
use Rattle.nut_monitor_spec.specs.Content.{Content, content}
use Rattle.nut_monitor_spec.specs.Acceptance.{refusal, is_linked, watch_at, Tells}
use Rattle.nut_monitor_spec.specs.Outcome.{IsAnswer, after}
use Rattle.nut_monitor_loop.specs.Record.{Entry, Gave, TookBytes, WasLate, WriteBroke, WasClosed, WasTold, LeadsTo}
use Rattle.nut_monitor_loop.specs.declared.types.Next.{Next}

-- An entry of the world's record, and the event of the monitor's history that stands for it, if one does.
pub record Step : Type 0 where
  pub entry : Entry
  pub event : Option Event

abbrev pub entries_of : List Step → List Entry
entries_of steps = map (λ step. step.entry) steps

-- these events, with one more if there is one
abbrev pub with_event : Option Event → List Event → List Event
with_event None events = events
with_event (Some e) events = e ∷ events

abbrev pub history_of : List Step → List Event
history_of [] = []
history_of (step ∷ steps) = with_event step.event (history_of steps)

-- the link on which a piece comes, if the event is a piece and that link is up
abbrev pub sender : Event → Content → Option ℕ
sender (LinkBytes i piece) s = if is_linked (watch_at i s.watches) then Some i else None
sender e s = None

-- that link, if it is no longer up
abbrev pub lost_of : Option ℕ → Content → Option ℕ
lost_of None s = None
lost_of (Some i) s = if is_linked (watch_at i s.watches) then None else Some i

-- The link that the monitor dropped by itself: it was up before a piece of its bytes, and isn't after it.
abbrev pub lost_by : Event → Content → Content → Option ℕ
lost_by e before after = lost_of (sender e before) after

-- After the history h, while the link `owed`, if any, has still to be closed by the world: which event stands for an
-- entry, and which link has then to be closed. The monitor was made with `first`.
abbrev pub Stands : Configuration → List Event → Option ℕ → Entry → Option Event → Option ℕ → Type 0
-- An event comes only when no link has to be closed and no notice waits. What stands for it depends on the monitor's
-- answer: the event itself; nothing if it is refused; and if memory ran out, the event that says behind how many lines.
Stands first h owed (Gave e) event owed' =
    (answer : Result (Unit {0}) MonitorFault) × (owed ≡ None) × ((content first h).notices ≡ []) × IsAnswer (content first h) e answer
    × (with_event event h ≡ after answer e h) × (owed' ≡ lost_by e (content first h) (content first (after answer e h)))
-- `LinkTook` stands for bytes that were taken, `LinkLost` for a write that failed, and no event for a late write. Both come
-- only when no notice waits.
Stands first h owed (TookBytes i bytes) event owed' =
    ((content first h).notices ≡ []) × (refusal (content first h) (LinkTook i (length bytes)) ≡ None)
    × (event ≡ Some (LinkTook i (length bytes))) × (owed' ≡ owed)
Stands first h owed (WasLate i) event owed' = (event ≡ None) × (owed' ≡ owed)
Stands first h owed (WriteBroke i) event owed' =
    ((content first h).notices ≡ []) × (refusal (content first h) (LinkLost i) ≡ None) × (event ≡ Some (LinkLost i))
    × (owed ≡ None) × (owed' ≡ Some i)
-- Only the link that has to be closed is closed.
Stands first h owed (WasClosed i) event owed' = (event ≡ None) × (owed ≡ Some i) × (owed' ≡ None)
-- The notice that is handed over is the oldest that waits, and is handed out.
Stands first h owed (WasTold notice) event owed' =
    (others : List Notice) × ((content first h).notices ≡ notice ∷ others) × (event ≡ Some NoticeTaken) × (owed' ≡ owed)

-- Each of these steps is right, and the link `owed`, if any, has still to be closed.
abbrev pub Told : Configuration → List Step → Option ℕ → Type 0
Told first [] owed = owed ≡ None
Told first (step ∷ steps) owed =
    (before : Option ℕ) × Told first steps before × Stands first (history_of steps) before step.entry step.event owed

-- the bytes that were taken of the writes to link i, after this entry
abbrev pub taken_by : ℕ → Entry → List ℕ → List ℕ
taken_by i (TookBytes j bytes) before = if j == i then before ++ bytes else before
taken_by i entry before = before

abbrev pub since_made : ℕ → Option Event → List ℕ → List ℕ
since_made i None before = before
since_made i (Some e) before = since_linked [] i e before

-- the bytes that the world took of the writes to link i since it was made
abbrev pub taken : ℕ → List Step → List ℕ
taken i [] = []
taken i (step ∷ steps) = taken_by i step.entry (since_made i step.event (taken i steps))

-- the notices that were handed over, the oldest first
abbrev pub handed : List Entry → List Notice
handed [] = []
handed (WasTold notice ∷ r) = handed r ++ notice ∷ []
handed (entry ∷ r) = handed r

-- There are steps whose entries are such that the world did them, and: the monitor has the content of their history; the
-- bytes that the world took of the writes to each link since it was made are those that were sent on it; and the notices
-- that the world was handed, followed by those that wait, are the notices of the history.
pub record Watched (first : Configuration) (Did : List Entry → Type 0) (s : Content) (owed : Option ℕ) : Type 0 where
  pub steps : List Step
  pub did : Did (entries_of steps)
  pub told : Told first steps owed
  pub holds : Tells first (history_of steps) s
  pub sent_is : (i : ℕ) → taken i steps ≡ sent first i (trace first (history_of steps))
  pub notices_are : handed (entries_of steps) ++ s.notices ≡ notices (trace first (history_of steps))

-- `Watched` held before the world gave this value, with these bytes in the piece, and no link had to be closed. The world waits
-- to hear what became of the event, if it gave one.
abbrev pub WatchedBefore : Configuration → (List Entry → Type 0) → (List Entry → Type 0) → Content → Next → List ℕ → Type 0
WatchedBefore first Awaits Did s n piece = Watched first (LeadsTo n piece Awaits Did) s None

-- What is watched since `start`: the configuration, of the monitor and as it is defined, and the world as it was then.
pub record Since (World : Type 0) : Type 0 where
  pub config : MonConfig
  pub first : Configuration
  pub start : World
