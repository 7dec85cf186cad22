-- The server as a machine over its content: how an accepted event changes the content. The machine doesn't keep the
-- past. The law `machine_keeps_content` says that it keeps the content of every history. Who believes `Content` needn't
-- believe this file.
use Rattle.std.specs.Prelude.{ℕ, zero, suc, true, not, ◌==◌, ◌≡◌, max, if◌then◌else◌, ◌+◌, ◌-◌, List, [], ◌∷◌, ◌++◌, filter, length, map, drop, Option, Some, None}
use Rattle.nut_words.specs.Bytes.{line_feed}
use Rattle.nut_words.specs.Lines.{LineText, Text, TooLong, joined}
use Rattle.nut_state.specs.Table.{Table, empty}
use Rattle.nut_state.specs.Step.{applied}
use Rattle.nut_proto.specs.declared.driver_ask.DriverAsk.TheVariants.{Ping, DumpAll}
use Rattle.nut_proto.specs.DriverAsks.{ask_line}
use Rattle.nut_server_spec.specs.Configuration.{Configuration, Ups}
use Rattle.nut_server_spec.specs.Command.{Command, command_of}
use Rattle.nut_server_spec.specs.Event.{Event, Moment, Open, Bytes, Took, Close, WriteFailed, DriverUp, DriverBytes, DriverTook, DriverDown, Reload}
use Rattle.nut_server_spec.specs.Tracking.{told_in, with_tracked, all_ended_by, all_abandoned}
use Rattle.nut_server_spec.specs.Device.{Device, needs_ping}
use Rattle.nut_server_spec.specs.Answer.{Answer, Silence, Guest, Scene, Caller, answer, text_of}
use Rattle.nut_server_spec.specs.Effect.{user_then, password_then, login_then, logged_out_then, tracking_then, number_in, target, forced_then, request_of}
use Rattle.nut_server_spec.specs.Trace.{given_then, is_heard, with_request}
use Rattle.nut_server_spec.specs.Content.{Session, Supply, Content, content, down, fresh, numbering_of, unheard}
use Rattle.nut_server_spec.specs.Acceptance.{IsAccepted, session_of}
use Rattle.nut_server_spec.specs.Numbering.{Numbering, Fate, below, renumbered, fate_of, by_fate, is_to_cleared}

-- the sessions, with the one with the number c changed
abbrev pub update : ℕ → (Session → Session) → List Session → List Session
update c change [] = []
update c change (k ∷ sessions) = if k.number == c then change k ∷ sessions else k ∷ update c change sessions

-- the UPSes, with the one with the number u changed
abbrev pub update_at : ℕ → (Supply → Supply) → List Supply → List Supply
update_at u change [] = []
update_at zero change (d ∷ supplies) = change d ∷ supplies
update_at (suc u) change (d ∷ supplies) = d ∷ update_at u change supplies

-- a content with these sessions in place of its own
abbrev pub with_sessions : List Session → Content → Content
with_sessions sessions s = record s { sessions = sessions }

-- a content with these UPSes in place of its own
abbrev pub with_supplies : List Supply → Content → Content
with_supplies supplies s = record s { supplies = supplies }

-- ---- a line of a client

-- what the server knows of a session when a line is answered
abbrev pub guest_of : Session → Guest
guest_of k = record { address = k.address; login = k.login }

-- what the server knows of a session when it answers a line of it
abbrev pub caller_of : Session → Caller
caller_of k = record { user = k.user; password = k.password; login = k.login; tracking = k.tracking }

-- what the server knows when it answers a line
abbrev pub scene_of : Content → Scene
scene_of s = record {
  configuration = s.configuration;
  numbers = s.numbers;
  clock = s.clock;
  given = s.given;
  devices = map (λ d. d.device) s.supplies;
  guests = map guest_of s.sessions;
}

-- the answer to a command of a session: silence if it has logged out
abbrev pub answer_in : Content → Command → Session → Answer
answer_in s command k = if k.logged_out then Silence else answer (scene_of s) (caller_of k) command

-- a session after an answer to its command
abbrev pub answered : Numbering → Command → Answer → Session → Session
answered now command reply k = record {
  number = k.number;
  address = k.address;
  user = user_then command reply k.user;
  password = password_then command reply k.password;
  login = login_then now command reply k.login;
  logged_out = logged_out_then command reply k.logged_out;
  tracking = tracking_then command reply k.tracking;
  rest = k.rest;
  waits = k.waits ++ text_of reply;
}

-- the requests that wait for a driver, with one more at their end if there is one and the driver is connected
abbrev pub requested : Option (List ℕ) → Device → List ℕ
requested request d = if d.connected then with_request request d.waits else d.waits

-- a UPS after an answer to a command that acts on it
abbrev pub acted : Command → Answer → Supply → Supply
acted command reply d = record {
  device = record {
    connected = d.device.connected;
    table = d.device.table;
    heard_at = d.device.heard_at;
    pinged_at = d.device.pinged_at;
    forced = forced_then command reply d.device.forced;
    waits = requested (request_of command reply) d.device;
    tracked = with_tracked (number_in reply) d.device.tracked;
  };
  rest = d.rest;
}

-- the UPSes, with the one changed on which a command acts, if it acts on one
abbrev pub act_on : Option ℕ → (Supply → Supply) → List Supply → List Supply
act_on None change supplies = supplies
act_on (Some u) change supplies = update_at u change supplies

-- a session with this unfinished line in place of its own
abbrev pub with_rest : LineText → Session → Session
with_rest line k = record k { rest = line }

-- the content after this answer to a command of c, whose line it completes
abbrev pub after_answer : ℕ → Command → Answer → Content → Content
after_answer c command reply s = record s {
  sessions = update c (λ k. with_rest (Text []) (answered (numbering_of s) command reply k)) s.sessions;
  supplies = act_on (target (numbering_of s) command) (acted command reply) s.supplies;
  given = given_then reply s.given;
}

-- the content after a command of c, if c is open
abbrev pub after_command : ℕ → Command → Option Session → Content → Content
after_command c command None s = s
after_command c command (Some k) s = after_answer c command (answer_in s command k) s

-- the content after c, if it is open, completes its line
abbrev pub line_heard : ℕ → Option Session → Content → Content
line_heard c None s = s
line_heard c (Some k) s = after_command c (command_of k.rest) (Some k) s

-- the content after one byte of c: a line feed completes the unfinished line, and any other byte is added to it
abbrev pub byte_heard : ℕ → ℕ → Content → Content
byte_heard c b s =
    if b == line_feed then line_heard c (session_of c s.sessions) s
    else with_sessions (update c (λ k. with_rest (joined k.rest (b ∷ [])) k) s.sessions) s

-- the content after bytes of c, one by one
abbrev pub bytes_heard : ℕ → List ℕ → Content → Content
bytes_heard c [] s = s
bytes_heard c (b ∷ bytes) s = bytes_heard c bytes (byte_heard c b s)

-- the sessions without that of c
abbrev pub without : ℕ → List Session → List Session
without c sessions = filter (λ k. not (k.number == c)) sessions

-- ---- a driver

-- the table after a line of the driver
abbrev pub told : LineText → Table → Table
told (Text line) table = applied table line
told TooLong table = table

-- a UPS after a line of its driver at this moment
abbrev pub reported_by : ℕ → LineText → Supply → Supply
reported_by time line d = record {
  device = record d.device { table = told line d.device.table; heard_at = if is_heard line then time else d.device.heard_at; tracked = all_ended_by (told_in line) d.device.tracked };
  rest = Text [];
}

-- a UPS after one byte of its driver
abbrev pub byte_reported : ℕ → ℕ → Supply → Supply
byte_reported time b d = if b == line_feed then reported_by time d.rest d else record d { rest = joined d.rest (b ∷ []) }

-- a UPS after bytes of its driver, one by one
abbrev pub bytes_reported : ℕ → List ℕ → Supply → Supply
bytes_reported time [] d = d
bytes_reported time (b ∷ bytes) d = bytes_reported time bytes (byte_reported time b d)

-- a UPS whose driver is connected at this moment: the driver is asked for a dump
abbrev pub up : ℕ → Supply → Supply
up time d = record {
  device = record {
    connected = true;
    table = empty;
    heard_at = time;
    pinged_at = None;
    forced = d.device.forced;
    waits = ask_line DumpAll;
    tracked = all_abandoned d.device.tracked;
  };
  rest = Text [];
}

-- a UPS whose driver took n bytes
abbrev pub drained : ℕ → Supply → Supply
drained n d = record d { device = record d.device { waits = drop n d.device.waits } }

-- a UPS at this moment: its driver is sent PING if it needs one
abbrev pub ticked : ℕ → ℕ → Supply → Supply
ticked max_age time d =
    if needs_ping max_age time d.device
    then record d { device = record d.device { pinged_at = Some time; waits = d.device.waits ++ ask_line Ping } }
    else d

-- ---- a reload

-- the UPSes with the numbers from n on, each changed by its number
abbrev pub changed_from : ℕ → (ℕ → Supply → Supply) → List Supply → List Supply
changed_from n change [] = []
changed_from n change (d ∷ supplies) = change n d ∷ changed_from (n + 1) change supplies

-- a UPS after its fate
abbrev pub fated : Fate → Supply → Supply
fated fate d = by_fate fate unheard down d

-- the UPSes after a reload: those before, each after its fate, and as many more as are needed
abbrev pub supplies_after : List Ups → Numbering → List Supply → List Supply
supplies_after upses now supplies =
    changed_from 0 (λ u. fated (fate_of upses now u)) supplies ++ map (λ u. unheard) (below (length upses - length supplies))

-- the content after a reload
abbrev pub reloaded : Configuration → Content → Content
reloaded configuration s = record s {
  configuration = configuration;
  numbers = renumbered configuration.upses (numbering_of s);
  sessions = filter (λ k. not (is_to_cleared (fate_of configuration.upses (numbering_of s)) k.login)) s.sessions;
  supplies = supplies_after configuration.upses (numbering_of s) s.supplies;
}

-- ---- the machine

-- the content after an accepted event
abbrev pub advance : Content → Event → Content
advance s (Moment t) =
    record s { clock = max s.clock t; supplies = map (ticked s.configuration.max_age (max s.clock t)) s.supplies }
advance s (Open address) = record s { opened = s.opened + 1; sessions = s.sessions ++ fresh (s.opened + 1) address ∷ [] }
advance s (Bytes c piece) = bytes_heard c piece s
advance s (Took c n) = with_sessions (update c (λ k. record k { waits = drop n k.waits }) s.sessions) s
advance s (Close c) = with_sessions (without c s.sessions) s
advance s (WriteFailed c) = with_sessions (without c s.sessions) s
advance s (DriverUp u) = with_supplies (update_at u (up s.clock) s.supplies) s
advance s (DriverBytes u piece) = with_supplies (update_at u (bytes_reported s.clock piece) s.supplies) s
advance s (DriverTook u n) = with_supplies (update_at u (drained n) s.supplies) s
advance s (DriverDown u) = with_supplies (update_at u down s.supplies) s
advance s (Reload configuration) = reloaded configuration s

-- The machine keeps the content of every history of accepted events: the content after an event is what `advance` makes
-- of the content before it.
abbrev pub KeepsContent : Type 0
KeepsContent = (first : Configuration) (h : List Event) (e : Event) → IsAccepted first (e ∷ h) → content first (e ∷ h) ≡ advance (content first h) e
