-- How a monitor may answer an event, and the history and the content after that.
use Rattle.std.specs.Prelude.{◌≡◌, ℕ, List, ◌∷◌, Option, Some, None, Result, Ok, Err}
use Rattle.nut_words.specs.Lines.{lines_after}
use Rattle.nut_link.specs.Exchange.{Exchange}
use Rattle.nut_link.specs.Hearing.{RunsOut}
use Rattle.nut_link.specs.Link.{LinkValue}
use Rattle.nut_monitor_spec.specs.declared.MonitorFault.{MonitorFault}
use Rattle.nut_monitor_spec.specs.declared.MonitorFault.TheVariants.{Memory}
use Rattle.nut_monitor_spec.specs.Event.{Event, LinkBytes, OutOfMemory}
use Rattle.nut_monitor_spec.specs.Content.{Watch, Content}
use Rattle.nut_monitor_spec.specs.Acceptance.{refusal, Accepts, watch_at}

-- Memory may run out on a link behind the first k of the lines that a piece completes. Not on a link that isn't up.
abbrev pub MayRunOut : ℕ → List ℕ → Option LinkValue → Type 0
MayRunOut k piece None = ⊥
MayRunOut k piece (Some v) = (after : Exchange) × RunsOut (lines_after v.rest piece) v.exchange k after

abbrev pub MayRunOutIn : ℕ → List ℕ → Option Watch → Type 0
MayRunOutIn k piece None = ⊥
MayRunOutIn k piece (Some w) = MayRunOut k piece w.link

-- Memory may run out only at a piece, on its link, at a line that may take memory. No other event takes any.
abbrev pub MayLack : Content → Option ℕ → ℕ → Event → Type 0
MayLack s (Some i) k (LinkBytes j piece) = (i ≡ j) × MayRunOutIn k piece (watch_at j s.watches)
MayLack s link k event = ⊥

-- A monitor with this content may refuse the event with this fault: it is the fault of the first test that refuses the
-- event; or no test refuses it, and memory may run out there.
abbrev pub IsRefusal : Content → Event → MonitorFault → Type 0
IsRefusal s event (Memory link k) = (refusal s event ≡ None) × MayLack s link k event
IsRefusal s event fault = refusal s event ≡ Some fault

-- A monitor with this content may answer the event by this result.
abbrev pub IsAnswer : {U : Type 0} → Content → Event → Result U MonitorFault → Type 0
IsAnswer s event (Ok u) = Accepts s event
IsAnswer s event (Err fault) = IsRefusal s event fault

-- ---- the history and the content after an answer

-- The event that enters the history if memory ran out behind the first k lines of a piece.
abbrev pub cut_short : ℕ → Event → Event
cut_short k (LinkBytes i piece) = OutOfMemory i piece k
cut_short k event = event

-- the history after a refusal: only a lack of memory changes it
abbrev pub after_refusal : MonitorFault → Event → List Event → List Event
after_refusal (Memory link k) event events = cut_short k event ∷ events
after_refusal fault event events = events

-- the history after an event and the answer to it
abbrev pub after : {U : Type 0} → Result U MonitorFault → Event → List Event → List Event
after (Ok u) event events = event ∷ events
after (Err fault) event events = after_refusal fault event events
