-- The content of a history: what a server has to know of it. If two histories have the same content, their next events
-- are answered alike.
use Rattle.std.specs.Prelude.{ℕ, Bool, false, if◌then◌else◌, List, [], map, take, drop, Option, None}
use Rattle.nut_words.specs.Lines.{LineText, Text, rest}
use Rattle.nut_server_spec.specs.Configuration.{Configuration}
use Rattle.nut_server_spec.specs.Device.{Device, absent}
use Rattle.nut_server_spec.specs.Event.{Event, input, taken, driver_input, steps}
use Rattle.nut_server_spec.specs.Numbering.{Numbering, with_numbers}
use Rattle.nut_server_spec.specs.Trace.{Entry, configuration, numbers, clock, opened, open_numbers, address, user, password, login, logged_out, tracking, given, due, connected, device, ups_numbers, trace}
use Rattle.nut_server_spec.specs.Tracking.{all_abandoned}

-- An open connection: what it said of itself, its unfinished line, and the bytes that wait for it.
pub record Session : Type 0 where
  pub number : ℕ
  pub address : List ℕ
  pub user : Option (List ℕ)
  pub password : Option (List ℕ)
  pub login : Option ℕ
  pub logged_out : Bool
  pub tracking : Bool
  pub rest : LineText
  pub waits : List ℕ

-- the session of a new connection
abbrev pub fresh : ℕ → List ℕ → Session
fresh number address = record {
  number = number;
  address = address;
  user = None;
  password = None;
  login = None;
  logged_out = false;
  tracking = false;
  rest = Text [];
  waits = [];
}

-- A UPS: what its driver reported, and the driver's unfinished line while it is connected.
pub record Supply : Type 0 where
  pub device : Device
  pub rest : LineText

-- a UPS of which nothing is known
abbrev pub unheard : Supply
unheard = record { device = absent; rest = Text [] }

-- a UPS whose driver is disconnected
abbrev pub down : Supply → Supply
down d = record { device = record d.device { connected = false; waits = []; tracked = all_abandoned d.device.tracked }; rest = Text [] }

-- `numbers` are those of the UPSes, in the order of the configuration. `opened` is the number of connections opened so far,
-- `given` that of the numbers given to requests. `sessions` are the open connections, by rising number. `supplies` are
-- the UPSes by their numbers, also those whose number is free.
pub record Content : Type 0 where
  pub configuration : Configuration
  pub numbers : List ℕ
  pub clock : ℕ
  pub opened : ℕ
  pub given : ℕ
  pub sessions : List Session
  pub supplies : List Supply

-- the UPSes of a content and their numbers
abbrev pub numbering_of : Content → Numbering
numbering_of s = with_numbers s.configuration.upses s.numbers

-- the past of a history: its steps, each with its answer and its requests to drivers
abbrev pub past : Configuration → List Event → List Entry
past first h = trace first (steps h)

-- The bytes that c was sent: of all bytes due, as many from the beginning as c took. The law `sent_is_received` says that
-- these are the bytes that c took.
abbrev pub sent : Configuration → ℕ → List Event → List ℕ
sent first c h = take (taken c h) (due c (past first h))

-- The bytes that wait for c: the answers due, without the bytes that it took. Used only for open connections: nothing
-- waits for a closed one.
abbrev pub waits : Configuration → ℕ → List Event → List ℕ
waits first c h = drop (taken c h) (due c (past first h))

-- what the history h says about the connection c
abbrev pub session : Configuration → List Event → ℕ → Session
session first h c = record {
  number = c;
  address = address c (past first h);
  user = user c (past first h);
  password = password c (past first h);
  login = login first c (past first h);
  logged_out = logged_out c (past first h);
  tracking = tracking c (past first h);
  rest = rest (input c h);
  waits = waits first c h;
}

-- what the history h says about the UPS u
abbrev pub supply : Configuration → List Event → ℕ → Supply
supply first h u = record {
  device = device first (past first h) u;
  rest = if connected u (past first h) then rest (driver_input u h) else Text [];
}

-- the content of a server that was made with the configuration `first` and has the history h
abbrev pub content : Configuration → List Event → Content
content first h = record {
  configuration = configuration first (past first h);
  numbers = numbers first (past first h);
  clock = clock (past first h);
  opened = opened (past first h);
  given = given (past first h);
  sessions = map (session first h) (open_numbers (past first h));
  supplies = map (supply first h) (ups_numbers first (past first h));
}
