-- For private functions, nothing here has to be believed: how each line and each call changes a driver. What looking back
-- over all calls says is in `History`.
use Rattle.std.specs.Prelude.{ℕ, ◌-◌, ◌||◌, ◌&&◌, Bool, true, false, IsTrue, List, [], ◌++◌, Option, Some, None, if◌then◌else◌, codes, is_some, length, map, max, take, drop, nat_lt, slice_get}
use Rattle.std.specs.List.{flat_map}
use Rattle.std.specs.Option.{option_map_or}
use Rattle.nut_words.specs.Hearing.{heard_all as all_heard}
use Rattle.nut_words.specs.Lines.{LineText, Text, lines_after, rest_after}
use Rattle.nut_words.specs.Reader.{with_backslash}
use Rattle.nut_proto.specs.declared.driver_ask.DriverAsk.{DriverAsk}
use Rattle.nut_proto.specs.declared.driver_ask.DriverAsk.TheVariants as asks
use Rattle.nut_dummy.specs.declared.command.KnownCommand.{KnownCommand}
use Rattle.nut_dummy.specs.Command.{variable_set, value_set, command_of}
use Rattle.nut_dummy.specs.Dummy.{Content}
use Rattle.nut_dummy.specs.History.{Call, Linked, Moment, Bytes, Lost, Took}
use Rattle.nut_dummy.specs.Teller.{Variable, Teller, Change, Passing, Assigning, Doing, value_after, is_told, is_done, says, ended, dump, asked_by}

-- ---- lines

-- the variable after a change
abbrev pub followed : Bool → Change → Variable → Variable
followed asked change v = record {
  name = v.name;
  steps = v.steps;
  value = value_after change v.name v.steps v.value;
  told = v.told || (asked && is_told change v.name v.steps v.value);
}

-- the variable after a dump, which reported it if it has a value
abbrev pub dumped : Variable → Variable
dumped v = record { name = v.name; steps = v.steps; value = v.value; told = v.told || is_some v.value }

-- All variables follow a change. It is reported only if DUMPALL was asked, and behind it how the request with this number
-- ended.
abbrev pub changed : Option ℕ → Change → Teller → Teller
changed number change s = record {
  variables = map (followed s.asked change) s.variables;
  asked = s.asked;
  waits = s.waits ++ (if s.asked then flat_map (says change) s.variables ++ ended number (is_done change s.variables) else []);
}

abbrev pub dumped_all : Teller → Teller
dumped_all s = record { variables = map dumped s.variables; asked = true; waits = s.waits ++ dump s.variables }

-- A command that the driver knows sets its variable, whatever its parameter.
abbrev pub commanded : Option ℕ → Option KnownCommand → Teller → Teller
commanded number None s = record s { waits = s.waits ++ (if s.asked then ended number false else []) }
commanded number (Some c) s = changed number (Doing (variable_set c) (value_set c)) s

-- what was asked is done
abbrev pub answered : Option DriverAsk → Teller → Teller
answered None s = s
answered (Some asks.Ping) s = record s { waits = s.waits ++ codes "PONG\n" }
answered (Some asks.DumpAll) s = dumped_all s
answered (Some (asks.Set name value number)) s = changed number (Assigning name value) s
answered (Some (asks.InstCmd name parameter number)) s = commanded number (command_of name) s

-- a line, and lines in turn
abbrev pub heard : LineText → Teller → Teller
heard line s = answered (asked_by line) s

abbrev pub heard_all : List LineText → Teller → Teller
heard_all lines s = all_heard heard lines s

-- whether something is reported between two tellers: more bytes wait
abbrev pub tells_more : Teller → Teller → Bool
tells_more before after = nat_lt (length before.waits) (length after.waits)

-- Whether a line may take memory: it holds a backslash, or something is reported for it.
abbrev pub may_take_memory : LineText → Teller → Bool
may_take_memory line s = with_backslash line || tells_more s (heard line s)

abbrev pub untold : Variable → Variable
untold v = record v { told = false }

-- No bytes wait, nothing was reported, and DUMPALL wasn't asked.
abbrev pub relinked : Teller → Teller
relinked s = record { variables = map untold s.variables; asked = false; waits = [] }

-- ---- calls

-- a new link is made
abbrev pub linked : Content → Content
linked s = record s { linked = true; rest = Text []; teller = relinked s.teller }

-- the link is cut
abbrev pub cut : Content → Content
cut s = record s { linked = false; rest = Text []; teller = relinked s.teller }

-- Time never runs back. Of each variable the newest value that became due since the last moment takes effect.
abbrev pub passed : ℕ → Content → Content
passed t s = record s {
  clock = max s.clock t;
  teller = changed None (Passing s.round (s.clock - s.start) (max s.clock t - s.start)) s.teller;
}

-- the lines that a piece completes
abbrev pub brought : List ℕ → Content → List LineText
brought piece s = lines_after s.rest piece

-- a piece of the server's bytes: the lines that it completes are heard
abbrev pub told_bytes : List ℕ → Content → Content
told_bytes piece s = record s { rest = rest_after s.rest piece; teller = heard_all (brought piece s) s.teller }

-- a piece at which memory ran out behind k lines: these took effect, and the link is cut
abbrev pub cut_behind : ℕ → List ℕ → Content → Content
cut_behind k piece s = cut (record s { teller = heard_all (take k (brought piece s)) s.teller })

abbrev pub taken : ℕ → Content → Content
taken n s = record s { teller = record s.teller { waits = drop n s.teller.waits } }

abbrev pub step : Call → Content → Content
step Linked s = linked s
step (Moment t) s = passed t s
step (Bytes piece) s = told_bytes piece s
step (Lost k piece) s = cut_behind k piece s
step (Took n) s = taken n s

-- Memory may run out at line k of those that a piece completes, behind the lines before it.
abbrev pub MayStop : ℕ → List ℕ → Content → Type 0
MayStop k piece s =
    let before : Teller = heard_all (take k (brought piece s)) s.teller in
    IsTrue (option_map_or (λ line. may_take_memory line before) (slice_get (brought piece s) k) false)
