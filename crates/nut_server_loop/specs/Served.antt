-- How the history of a server follows from the record of the world.
use Rattle.std.specs.Prelude.{◌≡◌, ◌⊎◌, ℕ, ◌==◌, Bool, true, false, if◌then◌else◌, List, [], ◌∷◌, ◌++◌, length, map, Option, None, Result, Ok, Err, IfSome}
use Rattle.nut_server_spec.specs.declared.Refused.{Refused}
use Rattle.nut_server_spec.specs.declared.Refused.TheVariants.{Memory}
use Rattle.nut_server_spec.specs.declared.Place.{Place}
use Rattle.nut_server_spec.specs.declared.Place.TheVariants.{Line, Report, NewUpses}
use Rattle.nut_server_spec.specs.Configuration.{Configuration}
use Rattle.nut_server_spec.specs.Event.{Event, Took, Close, WriteFailed, DriverUp, DriverTook, DriverDown, Reload}
use Rattle.nut_server_spec.specs.Numbering.{fate_of, is_cleared}
use Rattle.nut_server_spec.specs.Trace.{driver_sent, numbering}
use Rattle.nut_server_spec.specs.Content.{Content, content, past, sent}
use Rattle.nut_server_spec.specs.Acceptance.{refusal, Tells}
use Rattle.nut_server_spec.specs.Outcome.{IsAnswer, after}
use Rattle.nut_server_spec.specs.Reloading.{drivers_ended, connections_ended}
use Rattle.nut_server_loop.specs.Record.{Entry, Gave, TookBytes, WasLate, WriteBroke, WasClosed, is_peer, late_in, NothingIsWithheld, leaves_at}
use Rattle.nut_server_loop.specs.declared.types.Peer.{Peer}
use Rattle.nut_server_loop.specs.declared.types.Peer.TheVariants.{Connection, Driver}

-- what a lack of memory at a place ended for the server, and has still to be closed by the world
abbrev pub ended_at : Place → List Peer
ended_at (Line c k) = Connection c ∷ []
ended_at (Report u k) = Driver u ∷ []
ended_at NewUpses = []

-- what a refusal ended: nothing, unless memory ran out
abbrev pub ended_by_refusal : Refused → List Peer
ended_by_refusal (Memory place) = ended_at place
ended_by_refusal r = []

-- the links to these drivers and then these connections, in the order in which they are to be closed
abbrev pub to_close : List ℕ → List ℕ → List Peer
to_close drivers connections = map Driver drivers ++ map Connection connections

-- what an accepted event ended that the world doesn't know of: a reload ends drivers and connections
abbrev pub ended_by_event : Content → Event → List Peer
ended_by_event s (Reload configuration) = to_close (drivers_ended configuration s) (connections_ended configuration s)
ended_by_event s e = []

-- what an event ended of a server with this content, by the server's answer to it
abbrev pub ended_by : {U : Type 0} → Content → Event → Result U Refused → List Peer
ended_by s e (Ok _) = ended_by_event s e
ended_by s e (Err r) = ended_by_refusal r

-- the events that stand for n bytes that a peer took, for a failed write to it, and for its end
abbrev pub took : Peer → ℕ → Event
took (Connection c) n = Took c n
took (Driver u) n = DriverTook u n

abbrev pub failed : Peer → Event
failed (Connection c) = WriteFailed c
failed (Driver u) = DriverDown u

abbrev pub closed : Peer → Event
closed (Connection c) = Close c
closed (Driver u) = DriverDown u

-- The server was made with `first`. Before the entry it has the events h, writes to those who are late are to come later,
-- and the world still has to close what `owed` lists. After the entry the events are h', and owed' has to be closed.
abbrev pub Stands : Configuration → List Event → (Peer → Bool) → List Peer → Entry → List Event → List Peer → Type 0
-- An arrival comes only when all that waits was offered and nothing is left to close. The history continues by the
-- server's answer: with the arrival; without it if it is refused; or, if memory ran out in a piece, with the lines that
-- were done and the end of the connection or the driver. This has then to be closed, and so has what a reload ended.
Stands first h late owed (Gave e) h' owed' =
    (answer : Result (Unit {0}) Refused) × NothingIsWithheld late (content first h) × (owed ≡ []) × IsAnswer first h e answer ×
    (h' ≡ after answer e h) × (owed' ≡ ended_by (content first h) e answer)
-- Bytes that were taken are an event. A write that is to come later is none. A failed write is one, and its peer has then
-- to be closed.
Stands first h late owed (TookBytes p bytes) h' owed' =
    (refusal (content first h) (took p (length bytes)) ≡ None) × (h' ≡ took p (length bytes) ∷ h) × (owed' ≡ owed)
Stands first h late owed (WasLate p) h' owed' = (h' ≡ h) × (owed' ≡ owed)
Stands first h late owed (WriteBroke p) h' owed' =
    (refusal (content first h) (failed p) ≡ None) × (h' ≡ failed p ∷ h) × (owed' ≡ p ∷ owed)
-- The world closes the peer that is the next to be closed, or a connection that has logged out and for which nothing
-- waits, and no other.
Stands first h late owed (WasClosed p) h' owed' =
    ((owed ≡ p ∷ owed') × (h' ≡ h)) ⊎ ((leaves_at p (content first h) ≡ true) × (h' ≡ closed p ∷ h) × (owed' ≡ owed))

-- An entry of the world's record, and the events of the server's history that stand for it, the newest first.
pub record Step : Type 0 where
  pub entry : Entry
  pub events : List Event

abbrev pub entries_of : List Step → List Entry
entries_of steps = map (λ step. step.entry) steps

abbrev pub history_of : List Step → List Event
history_of [] = []
history_of (step ∷ steps) = step.events ++ history_of steps

-- Each of these steps, the newest first, is right, and `owed` has still to be closed.
abbrev pub Told : Configuration → List Step → List Peer → Type 0
Told first [] owed = owed ≡ []
Told first (step ∷ steps) owed =
    (before : List Peer) × Told first steps before ×
    Stands first (history_of steps) (late_in (entries_of steps)) before step.entry (history_of (step ∷ steps)) owed

-- whether an event after the history h begins a peer anew: it connects the driver of u, or clears u
abbrev pub begins_anew : Configuration → List Event → Event → Peer → Bool
begins_anew first h (DriverUp v) (Driver u) = v == u
begins_anew first h (Reload new) (Driver u) = is_cleared (fate_of new.upses (numbering first (past first h)) u)
begins_anew first h e p = false

-- bytes taken for a peer, after more events: none if one of them begins it anew, else those before
abbrev pub since_begun : Configuration → Peer → List Event → List Event → List ℕ → List ℕ
since_begun first p [] h before = before
since_begun first p (e ∷ events) h before = if begins_anew first (events ++ h) e p then [] else since_begun first p events h before

-- the bytes taken for a peer, after one more entry
abbrev pub taken_for : Peer → Entry → List ℕ → List ℕ
taken_for p (TookBytes q bytes) before = if is_peer q p then before ++ bytes else before
taken_for p entry before = before

-- the bytes that the world took for a peer since it was last begun anew
abbrev pub taken : Configuration → Peer → List Step → List ℕ
taken first p [] = []
taken first p (step ∷ steps) =
    taken_for p step.entry (since_begun first p step.events (history_of steps) (taken first p steps))

-- the bytes that a peer was sent: those of a driver since it was last connected or its UPS cleared
abbrev pub sent_to : Configuration → Peer → List Event → List ℕ
sent_to first (Connection c) h = sent first c h
sent_to first (Driver u) h = driver_sent u (past first h)

-- There are steps whose entries are the world's record, if it keeps one, and: the server has the content of their history;
-- and the bytes that the world took for each peer are those that were sent.
pub record Served (first : Configuration) (log : Option (List Entry)) (s : Content) (owed : List Peer) : Type 0 where
  pub steps : List Step
  pub tells : IfSome log (λ r. r ≡ entries_of steps)
  pub told : Told first steps owed
  pub holds : Tells first (history_of steps) s
  pub sent_is : (p : Peer) → taken first p steps ≡ sent_to first p (history_of steps)
