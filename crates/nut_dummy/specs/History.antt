-- The inputs of a dummy driver, and what looking back over them says: the values, and the lines that are owed to a link.
-- Histories and lists of deeds have the newest first.
use Rattle.std.specs.Prelude.{◌≡◌, ℕ, ◌+◌, ◌-◌, ◌||◌, ◌&&◌, Bool, true, false, not, IsTrue, List, [], ◌∷◌, ◌++◌, Option, Some, None, Result, Ok, Err, if◌then◌else◌, codes, drop, is_some, length, map, max, take, nat_lt, slice_get}
use Rattle.std.specs.List.{flat_map}
use Rattle.std.specs.Option.{option_map_or}
use Rattle.nut_words.specs.Lines.{LineText, lines_after, rest}
use Rattle.nut_words.specs.Reader.{with_backslash}
use Rattle.nut_words.specs.declared.limits.TheConstants.{PIECE_MAX}
use Rattle.nut_proto.specs.declared.driver_ask.DriverAsk.{DriverAsk}
use Rattle.nut_proto.specs.declared.driver_ask.DriverAsk.TheVariants as asks
use Rattle.nut_dummy.specs.declared.dummy.DummyFault.{DummyFault}
use Rattle.nut_dummy.specs.declared.dummy.DummyFault.TheVariants as faults
use Rattle.nut_dummy.specs.Command.{variable_set, value_set, command_of}
use Rattle.nut_dummy.specs.Due.{at_start}
use Rattle.nut_dummy.specs.Dummy.{Content, timelines}
use Rattle.nut_dummy.specs.Script.{Script, Timeline}
use Rattle.nut_dummy.specs.Teller.{Variable, Teller, Change, Passing, Assigning, Doing, value_after, is_told, is_done, says, ended, dump, asked_by}

-- ---- deeds

-- What calls and lines do: they make or cut a link, change values, ask for a command that the driver doesn't know, dump,
-- or answer PING. A request with a number asks how it ended.
pub data Deed : Type 0 where
  Fresh : Deed
  Changes : (number : Option ℕ) (change : Change) → Deed
  Fails : (number : Option ℕ) → Deed
  Dumps : Deed
  Pongs : Deed

-- whether DUMPALL was asked on the link
abbrev pub has_asked : List Deed → Bool
has_asked [] = false
has_asked (Fresh ∷ past) = false
has_asked (Dumps ∷ past) = true
has_asked (deed ∷ past) = has_asked past

-- The value of a variable: the newest of its steps that became due, of its SETs that were obeyed, and of the commands
-- that set it; before any, the one due at the start.
abbrev pub value : Timeline → List Deed → Option (List ℕ)
value t [] = at_start t.steps
value t (Changes number change ∷ past) = value_after change t.name t.steps (value t past)
value t (deed ∷ past) = value t past

-- whether a variable was reported on this link
abbrev pub was_told : Timeline → List Deed → Bool
was_told t [] = false
was_told t (Fresh ∷ past) = false
was_told t (Changes number change ∷ past) = was_told t past || (has_asked past && is_told change t.name t.steps (value t past))
was_told t (Dumps ∷ past) = was_told t past || is_some (value t past)
was_told t (deed ∷ past) = was_told t past

-- a variable as looking back shows it
abbrev pub seen : List Deed → Timeline → Variable
seen past t = record { name = t.name; steps = t.steps; value = value t past; told = was_told t past }

-- The bytes that a deed owes the link. A change, and how a request with a number ended, are reported only once DUMPALL was asked.
abbrev pub owed : List Timeline → Deed → List Deed → List ℕ
owed ts Fresh past = []
owed ts (Changes number change) past =
    if has_asked past then flat_map (says change) (map (seen past) ts) ++ ended number (is_done change (map (seen past) ts)) else []
owed ts (Fails number) past = if has_asked past then ended number false else []
owed ts Dumps past = dump (map (seen past) ts)
owed ts Pongs past = codes "PONG\n"

-- The bytes owed since the link was made.
abbrev pub told : List Timeline → List Deed → List ℕ
told ts [] = []
told ts (Fresh ∷ past) = []
told ts (deed ∷ past) = told ts past ++ owed ts deed past

-- ---- what calls do

-- The deeds after one that was asked. A command that the driver knows sets its variable, whatever its parameter.
abbrev pub by_ask : Option DriverAsk → List Deed → List Deed
by_ask None past = past
by_ask (Some asks.Ping) past = Pongs ∷ past
by_ask (Some asks.DumpAll) past = Dumps ∷ past
by_ask (Some (asks.Set name text number)) past = Changes number (Assigning name text) ∷ past
by_ask (Some (asks.InstCmd name parameter number)) past =
    option_map_or (λ c. Changes number (Doing (variable_set c) (value_set c))) (command_of name) (Fails number) ∷ past

abbrev pub by_lines : List LineText → List Deed → List Deed
by_lines [] past = past
by_lines (line ∷ lines) past = by_lines lines (by_ask (asked_by line) past)

pub data Call : Type 0 where
  Linked : Call
  Moment : (t : ℕ) → Call
  Bytes : (piece : List ℕ) → Call
  -- memory ran out at a piece, behind k lines
  Lost : (k : ℕ) (piece : List ℕ) → Call
  Took : (n : ℕ) → Call

-- the greatest moment so far, at least the start
abbrev pub clock : ℕ → List Call → ℕ
clock start [] = start
clock start (Moment t ∷ h) = max (clock start h) t
clock start (call ∷ h) = clock start h

-- the bytes that came on this link, joined
abbrev pub input : List Call → List ℕ
input [] = []
input (Linked ∷ h) = []
input (Lost k piece ∷ h) = []
input (Bytes piece ∷ h) = input h ++ piece
input (call ∷ h) = input h

-- how many bytes were taken on this link
abbrev pub count_taken : List Call → ℕ
count_taken [] = 0
count_taken (Linked ∷ h) = 0
count_taken (Lost k piece ∷ h) = 0
count_taken (Took n ∷ h) = count_taken h + n
count_taken (call ∷ h) = count_taken h

-- The deeds of a history. A piece stands for the lines that it completes.
abbrev pub deeds : ℕ → ℕ → List Call → List Deed
deeds round start [] = []
deeds round start (Linked ∷ h) = Fresh ∷ deeds round start h
deeds round start (Moment t ∷ h) = Changes None (Passing round (clock start h - start) (max (clock start h) t - start)) ∷ deeds round start h
deeds round start (Bytes piece ∷ h) = by_lines (lines_after (rest (input h)) piece) (deeds round start h)
deeds round start (Lost k piece ∷ h) = Fresh ∷ by_lines (take k (lines_after (rest (input h)) piece)) (deeds round start h)
deeds round start (Took n ∷ h) = deeds round start h

-- whether there is a link
abbrev pub is_linked : List Call → Bool
is_linked [] = false
is_linked (Linked ∷ h) = true
is_linked (Lost k piece ∷ h) = false
is_linked (call ∷ h) = is_linked h

-- ---- the driver after a history

-- what a driver holds and reports, by looking back over deeds, after n bytes were taken
abbrev pub told_by : List Timeline → List Deed → ℕ → Teller
told_by ts past n = record { variables = map (seen past) ts; asked = has_asked past; waits = drop n (told ts past) }

-- The driver after a history. The bytes that wait are those owed to the link without those taken.
abbrev pub driver : Script → ℕ → List Call → Content
driver script start h = record {
  start = start;
  clock = clock start h;
  round = script.round;
  linked = is_linked h;
  rest = rest (input h);
  teller = told_by (timelines script) (deeds script.round start h) (count_taken h);
}

-- ---- what is refused, in the order of the tests

abbrev pub bytes_refusal : List ℕ → Content → Option DummyFault
bytes_refusal piece s =
    if not s.linked then Some faults.NotLinked else
    if nat_lt 0 (length s.teller.waits) then Some faults.Busy else
    if nat_lt PIECE_MAX (length piece) then Some faults.PieceTooLong else None

-- The fault of the first test that refuses a call, if one does. A lack of memory is no refusal.
abbrev pub refusal : Call → Content → Option DummyFault
refusal Linked s = None
refusal (Moment t) s = if nat_lt 0 (length s.teller.waits) then Some faults.Busy else None
refusal (Bytes piece) s = bytes_refusal piece s
refusal (Lost k piece) s = bytes_refusal piece s
refusal (Took n) s = if nat_lt (length s.teller.waits) n then Some faults.TooMuchTaken else None

-- no call of the history was refused
abbrev pub IsAccepted : Script → ℕ → List Call → Type 0
IsAccepted script start [] = Unit {0}
IsAccepted script start (call ∷ h) = IsAccepted script start h × (refusal call (driver script start h) ≡ None)

-- This history of accepted calls led to the driver.
abbrev pub Stands : Script → ℕ → List Call → Content → Type 0
Stands script start h s = IsAccepted script start h × (s ≡ driver script start h)

-- ---- what a call leads to

-- whether more is owed after deeds than before them
abbrev pub owes_more : List Timeline → List Deed → List Deed → Bool
owes_more ts before after = nat_lt (length (told ts before)) (length (told ts after))

-- The line with the number k, counted from 0, of those that a piece completes may take memory, behind the lines before it:
-- it holds a backslash, or something is reported for it.
abbrev pub MayRunOut : Script → ℕ → List Call → ℕ → List ℕ → Type 0
MayRunOut script start h k piece =
    let lines : List LineText = lines_after (rest (input h)) piece in
    let past : List Deed = by_lines (take k lines) (deeds script.round start h) in
    let takes : LineText → Bool = λ line. with_backslash line || owes_more (timelines script) past (by_ask (asked_by line) past) in
    IsTrue (option_map_or takes (slice_get lines k) false)

-- Memory runs out only at a moment for which something is reported, and then nothing changes; or at such a line of a piece,
-- and then the lines before it have taken effect, and the link is cut.
abbrev pub Lacks : Script → ℕ → List Call → Call → ℕ → Content → Type 0
Lacks script start h (Moment t) k new =
    (k ≡ 0) × (refusal (Moment t) (driver script start h) ≡ None)
    × IsTrue (owes_more (timelines script) (deeds script.round start h) (deeds script.round start (Moment t ∷ h)))
    × Stands script start h new
Lacks script start h (Bytes piece) k new = MayRunOut script start h k piece × Stands script start (Lost k piece ∷ h) new
Lacks script start h call k new = ⊥

-- What a call leads to after this history: it enters the history, or a fault names the first test that refuses it, and
-- nothing changes, or memory runs out.
abbrev pub LeadsTo : {U : Type 0} → Script → ℕ → List Call → Call → Content → Result U DummyFault → Type 0
LeadsTo script start h call new (Ok u) = Stands script start (call ∷ h) new
LeadsTo script start h call new (Err (faults.Memory k)) = Lacks script start h call k new
LeadsTo script start h call new (Err fault) = (refusal call (driver script start h) ≡ Some fault) × Stands script start h new

-- ---- what was reported and taken

-- The bytes reported on the last link: those owed to it; after a cut, those of them that were taken.
abbrev pub reported : Script → ℕ → List Call → List ℕ
reported script start [] = []
reported script start (Lost k piece ∷ h) =
    take (count_taken h) (told (timelines script) (by_lines (take k (lines_after (rest (input h)) piece)) (deeds script.round start h)))
reported script start (call ∷ h) =
    if is_linked (call ∷ h) then told (timelines script) (deeds script.round start (call ∷ h)) else reported script start h

-- The bytes that the server took on the last link: at each call the first of those that waited.
abbrev pub received : Script → ℕ → List Call → List ℕ
received script start [] = []
received script start (Linked ∷ h) = []
received script start (Took n ∷ h) = received script start h ++ take n (driver script start h).teller.waits
received script start (call ∷ h) = received script start h

-- After every history of accepted calls, the bytes taken, followed by those that wait, are the bytes reported.
abbrev pub LooksBack : Type 0
LooksBack =
    (script : Script) (start : ℕ) (h : List Call) → IsAccepted script start h →
    received script start h ++ (driver script start h).teller.waits ≡ reported script start h
