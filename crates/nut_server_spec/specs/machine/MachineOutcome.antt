-- How the machine answers an event, and the content after it: the twin of `Outcome`, whose histories it doesn't know. Who
-- believes `Outcome` needn't believe this file.
use Rattle.std.specs.Prelude.{◌≡◌, ℕ, ◌<◌, length, Bool, false, IsTrue, List, [], slice_get, Option, Some, None, Result, Ok, Err, ◌∷◌}
use Rattle.std.specs.Option.{option_map_or}
use Rattle.nut_words.specs.Lines.{LineText, Text, lines_after}
use Rattle.nut_server_spec.specs.declared.Place.{Place}
use Rattle.nut_server_spec.specs.declared.Place.TheVariants.{Line, Report, NewUpses}
use Rattle.nut_server_spec.specs.declared.Refused.{Refused}
use Rattle.nut_server_spec.specs.declared.Refused.TheVariants.{Memory}
use Rattle.nut_server_spec.specs.Configuration.{Configuration}
use Rattle.nut_server_spec.specs.Event.{Event, Bytes, Close, DriverBytes, DriverDown, Reload}
use Rattle.nut_server_spec.specs.Content.{Session, Supply, Content}
use Rattle.nut_server_spec.specs.Acceptance.{Tells, refusal, front, session_of, supply_of, behind, behind_report}
use Rattle.nut_server_spec.specs.Outcome.{IsAnswer, after, line_takes, text_takes}
use Rattle.nut_server_spec.specs.machine.Machine.{advance, bytes_heard, bytes_reported}

-- the session of c, and a UPS, after the first k lines that a piece completes
abbrev pub session_after : ℕ → List ℕ → ℕ → Content → Option Session
session_after c piece k s = session_of c (bytes_heard c (front k piece) s).sessions

abbrev pub supply_after : ℕ → List ℕ → ℕ → Option Supply → Option Supply
supply_after time piece k None = None
supply_after time piece k (Some d) = Some (bytes_reported time (front k piece) d)

-- the unfinished line of a connection: empty if it isn't open
abbrev pub unfinished_of : Option Session → LineText
unfinished_of o = option_map_or (λ k. k.rest) o (Text [])

-- The line with the number k, counted from 0, of those that a piece completes may take memory.
abbrev pub RunsOut : ℕ → List ℕ → ℕ → Content → Type 0
RunsOut c piece k s =
    let lines : List LineText = lines_after (unfinished_of (session_of c s.sessions)) piece in
    IsTrue (option_map_or (λ line. line_takes line (session_after c piece k s)) (slice_get lines k) false)

abbrev pub RunsOutOf : ℕ → List ℕ → ℕ → Option Supply → Type 0
RunsOutOf time piece k o =
    let lines : List LineText = lines_after (option_map_or (λ d. d.rest) o (Text [])) piece in
    let takes : LineText → Bool = λ line. option_map_or (λ d. text_takes line d.device.table) (supply_after time piece k o) false in
    IsTrue (option_map_or takes (slice_get lines k) false)

-- Memory may run out in a piece, behind k lines of it that were done, at one that it completes and that may take memory,
-- and at a reload whose UPSes are more than there are numbers. All other events take none.
abbrev pub Lacks : Content → Place → Event → Type 0
Lacks s (Line c k) (Bytes d piece) = (c ≡ d) × RunsOut d piece k s
Lacks s (Report u k) (DriverBytes v piece) = (u ≡ v) × RunsOutOf s.clock piece k (supply_of v s.supplies)
Lacks s NewUpses (Reload configuration) = length s.supplies < length configuration.upses
Lacks s place e = ⊥

-- A server with this content may answer so: a refusal names the first test that refuses the event, and memory
-- is lacking only where no test does.
abbrev pub Refuses : Content → Event → Refused → Type 0
Refuses s e (Memory place) = (refusal s e ≡ None) × Lacks s place e
Refuses s e r = refusal s e ≡ Some r

-- A server with this content may answer the event by this result.
abbrev pub Answers : {U : Type 0} → Content → Event → Result U Refused → Type 0
Answers s e (Ok u) = refusal s e ≡ None
Answers s e (Err r) = Refuses s e r

-- ---- the content after an answer

-- the history after k lines of a piece of c were done and it was closed, or after k lines of a piece of the driver of u were
-- done and it went
abbrev pub lost : ℕ → List ℕ → ℕ → List Event → List Event
lost c piece k h = Close c ∷ behind c piece k h

abbrev pub lost_report : ℕ → List ℕ → ℕ → List Event → List Event
lost_report u piece k h = DriverDown u ∷ behind_report u piece k h

-- the content after k lines of a piece of c were done and it was closed, or after k lines of a piece of the driver of u
-- were done and it went
abbrev pub content_lost : ℕ → List ℕ → ℕ → Content → Content
content_lost c piece k s = advance (bytes_heard c (front k piece) s) (Close c)

abbrev pub content_lost_report : ℕ → List ℕ → ℕ → Content → Content
content_lost_report u piece k s = advance (advance s (DriverBytes u (front k piece))) (DriverDown u)

-- the content after a lack of memory
abbrev pub content_after_lack : Place → Event → Content → Content
content_after_lack (Line c k) (Bytes d piece) s = content_lost d piece k s
content_after_lack (Report u k) (DriverBytes v piece) s = content_lost_report v piece k s
content_after_lack place e s = s

-- the content after a refusal
abbrev pub content_after_refusal : Refused → Event → Content → Content
content_after_refusal (Memory place) e s = content_after_lack place e s
content_after_refusal r e s = s

-- the content after an event and the answer to it: that of the history after it
abbrev pub content_after : {U : Type 0} → Result U Refused → Content → Event → Content
content_after (Ok u) s e = advance s e
content_after (Err r) s e = content_after_refusal r e s

-- ---- the law

-- What the machine answers to an event is what a server may answer that has the history, and what the machine has after it
-- is the content of the history after it.
abbrev pub AnswersKeepContent : Type 0
AnswersKeepContent =
    (first : Configuration) (h : List Event) (s : Content) (e : Event) (r : Result (Unit {0}) Refused) →
    Tells first h s → Answers s e r → IsAnswer first h e r × Tells first (after r e h) (content_after r s e)
