-- The past: each step with its answer and its requests to drivers, the newest first. Each function of a past here gives
-- a value by the newest entry and the value of the past before it.
use Rattle.std.specs.Prelude.{ℕ, ◌==◌, ◌+◌, max, Bool, true, false, not, if◌then◌else◌, List, [], ◌∷◌, ◌++◌, length, map, filter, take, drop, Option, Some, None, is_some}
use Rattle.nut_words.specs.Lines.{LineText, Text, TooLong}
use Rattle.nut_state.specs.Change.{heard}
use Rattle.nut_state.specs.Step.{table_of}
use Rattle.nut_proto.specs.declared.driver_ask.DriverAsk.TheVariants.{Ping, DumpAll}
use Rattle.nut_proto.specs.DriverAsks.{ask_line}
use Rattle.nut_server_spec.specs.Configuration.{Configuration}
use Rattle.nut_server_spec.specs.Command.{Command, command_of}
use Rattle.nut_server_spec.specs.Event.{Step, Clock, Opened, Said, Gone, Up, Reported, Drained, Down, Reloaded}
use Rattle.nut_server_spec.specs.Numbering.{Numbering, with_numbers, Fate, Kept, below, renumbered, fate_of, by_fate, is_to_cleared}
use Rattle.std.specs.Option.{option_map_or}
use Rattle.nut_server_spec.specs.Tracking.{Tracked, told_in, with_tracked, all_ended_by, all_abandoned}
use Rattle.nut_server_spec.specs.Device.{Device, needs_ping}
use Rattle.nut_server_spec.specs.Answer.{Answer, Silence, Scene, Caller, Guest, answer, text_of}
use Rattle.nut_server_spec.specs.Effect.{user_then, password_then, login_then, logged_out_then, tracking_then, number_in, target, forced_then, request_of, at_target}

-- A step; the answer to it, which is silence if the step is no line of a client; its request to the driver of each UPS, and
-- what it makes of each UPS, by the number of the UPS; and whether it closes a connection besides the one that it
-- concerns, by the number of the connection.
pub record Entry : Type 0 where
  pub step : Step
  pub answer : Answer
  pub asks : ℕ → Option (List ℕ)
  pub fate : ℕ → Fate
  pub closes : ℕ → Bool

-- ---- the server

-- the configuration after a step: only a reload changes it
abbrev pub reconfigured : Step → Configuration → Configuration
reconfigured (Reloaded configuration) before = configuration
reconfigured step before = before

-- the configuration after this past, if the server was made with `first`
abbrev pub configuration : Configuration → List Entry → Configuration
configuration first [] = first
configuration first (e ∷ past) = reconfigured e.step (configuration first past)

-- the numbers of the UPSes after a step, by those before: only a reload changes them
abbrev pub renumbered_by : Step → Numbering → List ℕ
renumbered_by (Reloaded configuration) before = renumbered configuration.upses before
renumbered_by step before = before.numbers

-- the numbers of the UPSes after this past, in the order of the configuration
abbrev pub numbers : Configuration → List Entry → List ℕ
numbers first [] = below (length first.upses)
numbers first (e ∷ past) =
    renumbered_by e.step (with_numbers (configuration first past).upses (numbers first past))

-- the UPSes after this past, and their numbers
abbrev pub numbering : Configuration → List Entry → Numbering
numbering first past = with_numbers (configuration first past).upses (numbers first past)

-- how many numbers there are for UPSes after a step, if there were n before it
abbrev pub places_after : Step → ℕ → ℕ
places_after (Reloaded configuration) n = max n (length configuration.upses)
places_after step n = n

-- how many numbers there are for UPSes: as many as the configuration with the most UPSes has
abbrev pub places : Configuration → List Entry → ℕ
places first [] = length first.upses
places first (e ∷ past) = places_after e.step (places first past)

-- the time after a step: the greatest moment so far
abbrev pub clock_after : Step → ℕ → ℕ
clock_after (Clock t) before = max before t
clock_after step before = before

-- the time: the greatest moment so far, or 0 before any
abbrev pub clock : List Entry → ℕ
clock [] = 0
clock (e ∷ past) = clock_after e.step (clock past)

-- how many connections have been opened after a step, if n had been before it
abbrev pub opened_after : Step → ℕ → ℕ
opened_after (Opened address) n = n + 1
opened_after step n = n

-- how many connections have been opened; the newest has this number
abbrev pub opened : List Entry → ℕ
opened [] = 0
opened (e ∷ past) = opened_after e.step (opened past)

-- the numbers of the open connections after a step, if n connections had been opened before it
abbrev pub numbers_after : Step → (ℕ → Bool) → ℕ → List ℕ → List ℕ
numbers_after (Opened address) closes n numbers = numbers ++ (n + 1) ∷ []
numbers_after (Gone c) closes n numbers = filter (λ d. not (d == c)) numbers
numbers_after (Reloaded configuration) closes n numbers = filter (λ d. not (closes d)) numbers
numbers_after step closes n numbers = numbers

-- the numbers of the open connections, rising
abbrev pub open_numbers : List Entry → List ℕ
open_numbers [] = []
open_numbers (e ∷ past) = numbers_after e.step e.closes (opened past) (open_numbers past)

-- how many numbers have been given to requests, if n had been before this answer
abbrev pub given_then : Answer → ℕ → ℕ
given_then reply n = option_map_or (λ number. n + 1) (number_in reply) n

-- how many numbers have been given to requests; the newest is this one
abbrev pub given : List Entry → ℕ
given [] = 0
given (e ∷ past) = given_then e.answer (given past)

-- ---- a connection

-- the address of c after a step, if n connections had been opened before it
abbrev pub address_after : ℕ → Step → ℕ → List ℕ → List ℕ
address_after c (Opened address) n before = if n + 1 == c then address else before
address_after c step n before = before

-- the address that c was opened from
abbrev pub address : ℕ → List Entry → List ℕ
address c [] = []
address c (e ∷ past) = address_after c e.step (opened past) (address c past)

-- A value of c after a step: if the step is a line of c, `change` applied to the line's command, its answer and the
-- value before; else the value before.
abbrev pub after_line : {A : Type 0} → (Command → Answer → A → A) → ℕ → Step → Answer → A → A
after_line change c (Said d line) reply before = if d == c then change (command_of line) reply before else before
after_line change c step reply before = before

abbrev pub user : ℕ → List Entry → Option (List ℕ)
user c [] = None
user c (e ∷ past) = after_line user_then c e.step e.answer (user c past)

abbrev pub password : ℕ → List Entry → Option (List ℕ)
password c [] = None
password c (e ∷ past) = after_line password_then c e.step e.answer (password c past)

abbrev pub login : Configuration → ℕ → List Entry → Option ℕ
login first c [] = None
login first c (e ∷ past) = after_line (login_then (numbering first past)) c e.step e.answer (login first c past)

abbrev pub logged_out : ℕ → List Entry → Bool
logged_out c [] = false
logged_out c (e ∷ past) = after_line logged_out_then c e.step e.answer (logged_out c past)

abbrev pub tracking : ℕ → List Entry → Bool
tracking c [] = false
tracking c (e ∷ past) = after_line tracking_then c e.step e.answer (tracking c past)

-- the answers to the lines of c, joined: all bytes due to it
abbrev pub due : ℕ → List Entry → List ℕ
due c [] = []
due c (e ∷ past) = after_line (λ command reply before. before ++ text_of reply) c e.step e.answer (due c past)

-- ---- a UPS and its driver

-- whether the driver of u is connected after a step
abbrev pub connected_after : ℕ → Step → Bool → Bool
connected_after u (Up v) before = if v == u then true else before
connected_after u (Down v) before = if v == u then false else before
connected_after u step before = before

-- whether the driver of u is connected
abbrev pub connected : ℕ → List Entry → Bool
connected u [] = false
connected u (e ∷ past) = by_fate (e.fate u) false (λ before. false) (connected_after u e.step (connected u past))

-- the lines of a driver, the newest first, with one more; a line that is too long isn't added
abbrev pub reported : LineText → List (List ℕ) → List (List ℕ)
reported (Text line) before = line ∷ before
reported TooLong before = before

-- the lines of the driver of u after a step, the newest first
abbrev pub reports_after : ℕ → Step → List (List ℕ) → List (List ℕ)
reports_after u (Up v) before = if v == u then [] else before
reports_after u (Reported v line) before = if v == u then reported line before else before
reports_after u step before = before

-- the lines of the driver of u since it was last connected, the newest first
abbrev pub reports : ℕ → List Entry → List (List ℕ)
reports u [] = []
reports u (e ∷ past) = by_fate (e.fate u) [] (λ before. before) (reports_after u e.step (reports u past))

-- whether a driver's line is heard: it reads as words, its first word is known, and it has as many words as that word
-- takes
abbrev pub is_heard : LineText → Bool
is_heard (Text line) = is_some (heard line)
is_heard TooLong = false

-- the moment at which a line of the driver of u was last heard or it was connected, after a step
abbrev pub heard_after : ℕ → Step → ℕ → ℕ → ℕ
heard_after u (Up v) time before = if v == u then time else before
heard_after u (Reported v line) time before = if v == u then (if is_heard line then time else before) else before
heard_after u step time before = before

-- the moment at which a line of the driver of u was last heard or it was connected, 0 before any
abbrev pub heard_at : ℕ → List Entry → ℕ
heard_at u [] = 0
heard_at u (e ∷ past) = by_fate (e.fate u) 0 (λ before. before) (heard_after u e.step (clock past) (heard_at u past))

-- the moment of the last PING to the driver of u since it was connected, after a step
abbrev pub pinged_after : ℕ → Step → Option (List ℕ) → ℕ → Option ℕ → Option ℕ
pinged_after u (Up v) asked time before = if v == u then None else before
pinged_after u (Clock t) asked time before = option_map_or (λ line. Some (max time t)) asked before
pinged_after u step asked time before = before

-- the moment of the last PING to the driver of u since it was connected, if there was one
abbrev pub pinged_at : ℕ → List Entry → Option ℕ
pinged_at u [] = None
pinged_at u (e ∷ past) = by_fate (e.fate u) None (λ before. before) (pinged_after u e.step (e.asks u) (clock past) (pinged_at u past))

-- whether a shutdown of u was forced, after a step: its FSD was answered `OK FSD-SET`
abbrev pub forced_after : Numbering → ℕ → Step → Answer → Bool → Bool
forced_after now u (Said c line) reply before =
    at_target u (target now (command_of line)) (forced_then (command_of line) reply) before
forced_after now u step reply before = before

-- whether a shutdown of u was forced
abbrev pub forced : Configuration → ℕ → List Entry → Bool
forced first u [] = false
forced first u (e ∷ past) =
    by_fate (e.fate u) false (λ before. before) (forced_after (numbering first past) u e.step e.answer (forced first u past))

-- The tracked requests to u after a step. One is added where it is given its number. The first line of the driver that
-- reports of it says how it ended; if the driver is disconnected or connected anew before that, the request failed.
abbrev pub tracked_after : Numbering → ℕ → Step → Answer → List Tracked → List Tracked
tracked_after now u (Said c line) reply before =
    at_target u (target now (command_of line)) (with_tracked (number_in reply)) before
tracked_after now u (Reported v line) reply before = if v == u then all_ended_by (told_in line) before else before
tracked_after now u (Up v) reply before = if v == u then all_abandoned before else before
tracked_after now u (Down v) reply before = if v == u then all_abandoned before else before
tracked_after now u step reply before = before

-- the newest tracked requests to u, the newest first, at most TRACKED_MAX
abbrev pub tracked : Configuration → ℕ → List Entry → List Tracked
tracked first u [] = []
tracked first u (e ∷ past) =
    by_fate (e.fate u) [] all_abandoned (tracked_after (numbering first past) u e.step e.answer (tracked first u past))

-- A value of the driver of u since it was connected: `start` when it is connected, else the value before.
abbrev pub since_up : {A : Type 0} → A → ℕ → Step → A → A
since_up start u (Up v) before = if v == u then start else before
since_up start u step before = before

-- the requests so far, and a further one at their end
abbrev pub with_request : Option (List ℕ) → List ℕ → List ℕ
with_request None before = before
with_request (Some line) before = before ++ line

-- all requests to the driver of u since it was connected, joined
abbrev pub driver_due : ℕ → List Entry → List ℕ
driver_due u [] = []
driver_due u (e ∷ past) =
    by_fate (e.fate u) [] (λ before. before) (with_request (e.asks u) (since_up [] u e.step (driver_due u past)))

-- how many bytes of them the driver of u has taken, after a step
abbrev pub drained_after : ℕ → Step → ℕ → ℕ
drained_after u (Up v) before = if v == u then 0 else before
drained_after u (Drained v n) before = if v == u then before + n else before
drained_after u step before = before

-- how many bytes of these requests the driver of u has taken
abbrev pub driver_taken : ℕ → List Entry → ℕ
driver_taken u [] = 0
driver_taken u (e ∷ past) = by_fate (e.fate u) 0 (λ before. before) (drained_after u e.step (driver_taken u past))

-- the bytes that the driver of u was sent since it was connected: of all bytes due, as many from the beginning as the
-- driver took
abbrev pub driver_sent : ℕ → List Entry → List ℕ
driver_sent u past = take (driver_taken u past) (driver_due u past)

-- the bytes that wait for the driver of u: the rest of the requests due, or none if it isn't connected
abbrev pub driver_waits : ℕ → List Entry → List ℕ
driver_waits u past = if connected u past then drop (driver_taken u past) (driver_due u past) else []

-- The UPS u after this past. Its table is what the driver's lines lead to, step by step. The law `every_table_holds` of
-- nut_state says what this table holds by looking back over the lines.
abbrev pub device : Configuration → List Entry → ℕ → Device
device first past u = record {
  connected = connected u past;
  table = table_of (reports u past);
  heard_at = heard_at u past;
  pinged_at = pinged_at u past;
  forced = forced first u past;
  waits = driver_waits u past;
  tracked = tracked first u past;
}

-- ---- answers

-- all numbers for UPSes, whether a UPS has the number or it is free
abbrev pub ups_numbers : Configuration → List Entry → List ℕ
ups_numbers first past = below (places first past)

-- what the server knows when it answers a line after this past
abbrev pub scene : Configuration → List Entry → Scene
scene first past = record {
  configuration = configuration first past;
  numbers = numbers first past;
  clock = clock past;
  given = given past;
  devices = map (device first past) (ups_numbers first past);
  guests = map (λ c. record { address = address c past; login = login first c past }) (open_numbers past);
}

-- what the server knows of the connection c when it answers a line of c
abbrev pub caller : Configuration → List Entry → ℕ → Caller
caller first past c = record { user = user c past; password = password c past; login = login first c past; tracking = tracking c past }

-- the answer to a line of c after this past: silence if c has logged out
abbrev pub answer_to : Configuration → List Entry → ℕ → LineText → Answer
answer_to first past c line =
    if logged_out c past then Silence else answer (scene first past) (caller first past c) (command_of line)

-- the answer to a step after this past
abbrev pub answer_at : Configuration → List Entry → Step → Answer
answer_at first past (Said c line) = answer_to first past c line
answer_at first past step = Silence

-- The request of a step to the driver of u: PING at a moment if it is needed, DUMPALL when the driver is connected, and
-- the SET or INSTCMD of a client's line.
abbrev pub asks_at : Configuration → List Entry → Step → ℕ → Option (List ℕ)
asks_at first past (Clock t) u =
    if needs_ping (configuration first past).max_age (max (clock past) t) (device first past u) then Some (ask_line Ping) else None
asks_at first past (Up v) u = if v == u then Some (ask_line DumpAll) else None
asks_at first past (Said c line) u =
    at_target u (target (numbering first past) (command_of line)) (λ none. request_of (command_of line) (answer_to first past c line)) None
asks_at first past step u = None

-- what a step makes of the UPS u after this past
abbrev pub fate_at : Configuration → List Entry → Step → ℕ → Fate
fate_at first past (Reloaded configuration) u = fate_of configuration.upses (numbering first past) u
fate_at first past step u = Kept

-- whether a step closes the connection c besides the one that it concerns: a reload closes those that are logged in to a
-- UPS that goes
abbrev pub closes_at : Configuration → List Entry → Step → ℕ → Bool
closes_at first past (Reloaded configuration) c =
    is_to_cleared (fate_of configuration.upses (numbering first past)) (login first c past)
closes_at first past step c = false

-- The past that these steps lead to, if the server was made with `first`: each step with its answer, its requests, and what
-- it makes of UPSes and connections, which depend on the past before it.
abbrev pub trace : Configuration → List Step → List Entry
trace first [] = []
trace first (s ∷ steps) =
    record {
      step = s;
      answer = answer_at first (trace first steps) s;
      asks = asks_at first (trace first steps) s;
      fate = fate_at first (trace first steps) s;
      closes = closes_at first (trace first steps) s;
    } ∷ trace first steps
