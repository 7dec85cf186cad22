-- How a server may answer an event, and what the history is after the answer.
use Rattle.std.specs.Prelude.{◌≡◌, ℕ, ◌<◌, length, Bool, true, false, not, ◌&&◌, ◌||◌, IsTrue, List, [], ◌∷◌, slice_get, Option, Some, None, Result, Ok, Err}
use Rattle.std.specs.Option.{option_map_or}
use Rattle.nut_words.specs.Lines.{LineText, Text, TooLong, lines_after}
use Rattle.nut_words.specs.Reader.{has_backslash, with_backslash}
use Rattle.nut_state.specs.Table.{Table}
use Rattle.nut_state.specs.Step.{line_adds}
use Rattle.nut_server_spec.specs.declared.Place.{Place}
use Rattle.nut_server_spec.specs.declared.Place.TheVariants.{Line, Report, NewUpses}
use Rattle.nut_server_spec.specs.declared.Refused.{Refused}
use Rattle.nut_server_spec.specs.declared.Refused.TheVariants.{Memory}
use Rattle.nut_server_spec.specs.Command.{Command, Blank, command_of}
use Rattle.nut_server_spec.specs.Event.{Event, Bytes, DriverBytes, Reload, Close, DriverDown}
use Rattle.nut_server_spec.specs.Configuration.{Configuration}
use Rattle.nut_server_spec.specs.Content.{Session, Supply, content, past}
use Rattle.nut_server_spec.specs.Trace.{places}
use Rattle.nut_server_spec.specs.Acceptance.{refusal, behind, behind_report, session_of, supply_of}

-- ---- where memory may run out

abbrev pub is_blank : Command → Bool
is_blank Blank = true
is_blank command = false

-- Whether a client's line may allocate memory: the connection is open and hasn't logged out, and the line says something
-- or has a backslash.
abbrev pub line_takes : LineText → Option Session → Bool
line_takes line None = false
line_takes line (Some k) = not k.logged_out && (not (is_blank (command_of line)) || with_backslash line)

-- Whether a driver's line may allocate memory: it adds a variable, an enum value, a range or a command to the table, or
-- holds a backslash.
abbrev pub text_takes : LineText → Table → Bool
text_takes (Text line) table = has_backslash line || line_adds table line
text_takes TooLong table = false

-- The line with the number k, counted from 0, of those that a piece completes may take memory, after the k lines before
-- it were done. `MayRunOut` is for a piece of c, `MayRunOutOf` for one of the driver of u.
abbrev pub MayRunOut : Configuration → List Event → ℕ → List ℕ → ℕ → Type 0
MayRunOut first h c piece k =
    let lines : List LineText = lines_after (option_map_or (λ k. k.rest) (session_of c (content first h).sessions) (Text [])) piece in
    IsTrue (option_map_or (λ line. line_takes line (session_of c (content first (behind c piece k h)).sessions)) (slice_get lines k) false)

abbrev pub MayRunOutOf : Configuration → List Event → ℕ → List ℕ → ℕ → Type 0
MayRunOutOf first h u piece k =
    let lines : List LineText = lines_after (option_map_or (λ d. d.rest) (supply_of u (content first h).supplies) (Text [])) piece in
    let found : Option Supply = supply_of u (content first (behind_report u piece k h)).supplies in
    let takes : LineText → Bool = λ line. option_map_or (λ d. text_takes line d.device.table) found false in
    IsTrue (option_map_or takes (slice_get lines k) false)

-- Memory can run out in a piece, at a line that it completes and that may allocate memory. The k lines before it were
-- done. It can run out at a reload whose UPSes are more than there are numbers. No other event allocates memory.
abbrev pub MayLack : Configuration → List Event → Place → Event → Type 0
MayLack first h (Line c k) (Bytes d piece) = (c ≡ d) × MayRunOut first h d piece k
MayLack first h (Report u k) (DriverBytes v piece) = (u ≡ v) × MayRunOutOf first h v piece k
MayLack first h NewUpses (Reload configuration) = places first (past first h) < length configuration.upses
MayLack first h place e = ⊥

-- A server that has the history h may answer so: a refusal names the first test that refuses the event, and memory
-- is lacking only where no test does.
abbrev pub IsRefusal : Configuration → List Event → Event → Refused → Type 0
IsRefusal first h e (Memory place) = (refusal (content first h) e ≡ None) × MayLack first h place e
IsRefusal first h e r = refusal (content first h) e ≡ Some r

-- A server that has the history h may answer the event by this result.
abbrev pub IsAnswer : {U : Type 0} → Configuration → List Event → Event → Result U Refused → Type 0
IsAnswer first h e (Ok u) = refusal (content first h) e ≡ None
IsAnswer first h e (Err r) = IsRefusal first h e r

-- ---- what an answer leads to

-- The history after memory ran out in a piece: its lines that were done, and then the connection is closed or the
-- driver disconnected.
abbrev pub after_lack : Place → Event → List Event → List Event
after_lack (Line c k) (Bytes d piece) h = Close d ∷ behind d piece k h
after_lack (Report u k) (DriverBytes v piece) h = DriverDown v ∷ behind_report v piece k h
after_lack place e h = h

-- the history after a refusal: only a lack of memory in a piece changes it
abbrev pub after_refusal : Refused → Event → List Event → List Event
after_refusal (Memory place) e h = after_lack place e h
after_refusal r e h = h

-- the history after an event and the answer to it
abbrev pub after : {U : Type 0} → Result U Refused → Event → List Event → List Event
after (Ok u) e h = e ∷ h
after (Err r) e h = after_refusal r e h
