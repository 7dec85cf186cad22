-- For private functions, nothing here has to be believed: what a line makes of what hears it, apart from its
-- unfinished line.
use Rattle.std.specs.Prelude.{◌≡◌, ℕ, List, [], Option, Some, None, IsTrue}
use Rattle.nut_words.specs.Cutter.{IsFirstLine}
use Rattle.nut_words.specs.Lines.{LineText, Text}
use Rattle.nut_server_spec.specs.Acceptance.{session_of}
use Rattle.nut_server_spec.specs.Command.{Command, command_of}
use Rattle.nut_server_spec.specs.Content.{Content, Session, Supply}
use Rattle.nut_server_spec.specs.Device.{Device}
use Rattle.nut_server_spec.specs.Outcome.{line_takes}
use Rattle.nut_server_spec.specs.machine.Machine.{answer_in, reported_by}
use Rattle.nut_server.specs.inside.Effects.{answered_by}
use Rattle.nut_server.specs.declared.server.hearing.Hearer.{Hearer}

-- what is known of a UPS after a line of its driver at this moment
abbrev pub line_reported : ℕ → LineText → Device → Device
line_reported time line d = (reported_by time line (record { device = d; rest = line })).device

-- a UPS after a line of its driver at this moment
abbrev pub line_told : ℕ → LineText → Supply → Supply
line_told time line d = record (reported_by time line d) { rest = d.rest }

-- the content after a command of c, if c is open
abbrev pub command_done : ℕ → Command → Option Session → Content → Content
command_done c command None s = s
command_done c command (Some k) s = answered_by c command (answer_in s command k) s

-- the content after a line of c
abbrev pub line_answered : ℕ → LineText → Content → Content
line_answered c line s = command_done c (command_of line) (session_of c s.sessions) s

-- a hearer whose server has this content
abbrev pub with_content : Content → Hearer → Hearer
with_content s h = record h { server = record h.server { now = s } }

-- a hearer after a line of its connection
abbrev pub line_heard_by : LineText → Hearer → Hearer
line_heard_by line h = with_content (line_answered h.c line h.server.now) h

-- The first line of these bytes of c, whose session was k, was answered; nothing was kept of a line before it.
pub record IsHeard (c : ℕ) (k : Session) (bytes after : List ℕ) (s new : Content) : Type 0 where
  pub text : List ℕ
  pub first : IsFirstLine text bytes after
  pub start : k.rest ≡ Text []
  pub heard : new ≡ answered_by c (command_of (Text text)) (answer_in s (command_of (Text text)) k) s

-- Memory ran out at the first line of these bytes of the session k, and nothing was changed.
pub record IsMissed (k : Session) (bytes : List ℕ) (s new : Content) : Type 0 where
  pub text : List ℕ
  pub after : List ℕ
  pub first : IsFirstLine text bytes after
  pub start : k.rest ≡ Text []
  pub same : new ≡ s
  pub takes : IsTrue (line_takes (Text text) (Some k))
