-- For private functions, nothing here has to be believed: what a request changes, apart from its answer.
use Rattle.std.specs.Prelude.{ℕ, ◌≤◌, ◌<◌, ◌≡◌, true, List, ◌++◌, length, slice_index_or, Option, Some, None}
use Rattle.nut_words.specs.declared.limits.TheConstants.{CREDENTIAL_MAX}
use Rattle.nut_proto.specs.declared.request.Request.TheVariants as requests
use Rattle.nut_server_spec.specs.Command.{Command, Asks}
use Rattle.nut_server_spec.specs.Answer.{Answer, Scene}
use Rattle.nut_server_spec.specs.Content.{Session, Supply, Content, numbering_of}
use Rattle.nut_server_spec.specs.Device.{Device, absent, fits}
use Rattle.nut_server_spec.specs.Effect.{target}
use Rattle.nut_server_spec.specs.Trace.{given_then}
use Rattle.nut_server_spec.specs.Tracking.{with_tracked}
use Rattle.nut_server_spec.specs.machine.Machine.{acted, act_on, answered, requested, update, update_at}
use Rattle.nut_server.specs.declared.effect.Effect.{Effect}
use Rattle.nut_server.specs.declared.effect.Effect.TheVariants as effects
use Rattle.nut_server_spec.specs.Numbering.{with_numbers}

-- ---- what an effect does

-- the session of the connection after the effect
abbrev pub affected : Effect → Session → Session
affected effects.Nothing k = k
affected (effects.User user) k = record k { user = Some user }
affected (effects.Password password) k = record k { password = Some password }
affected (effects.Login u) k = record k { login = Some u }
affected effects.Logout k = record k { login = None; logged_out = true }
affected (effects.Force u) k = k
affected (effects.Tracking on) k = record k { tracking = on }
affected (effects.Ask u number) k = k

-- a UPS whose shutdown was forced
abbrev pub forced : Supply → Supply
forced d = record d { device = record d.device { forced = true } }

-- a UPS whose driver was asked this, if it is connected, by a request with this number, if it is tracked
abbrev pub requesting : List ℕ → Option ℕ → Supply → Supply
requesting line number d = record d { device = record d.device { waits = requested (Some line) d.device; tracked = with_tracked number d.device.tracked } }

-- the UPSes after the effect; `line` is the request to the driver, if there is one
abbrev pub acting : Effect → List ℕ → List Supply → List Supply
acting (effects.Force u) line supplies = update_at u forced supplies
acting (effects.Ask u number) line supplies = update_at u (requesting line number) supplies
acting effect line supplies = supplies

-- the number that the effect gives a request, if it gives one
abbrev pub number_of : Effect → Option ℕ
number_of (effects.Ask u number) = number
number_of effect = None

-- how many numbers are given after one was given or none: the number of the newest
abbrev pub given_with : Option ℕ → ℕ → ℕ
given_with None before = before
given_with (Some number) before = number

-- The effect is possible: the UPS exists, and a driver that is asked is connected and has room for the line.
abbrev pub IsPossible : List Device → Effect → List ℕ → Type 0
IsPossible devices (effects.Force u) line = u < length devices
IsPossible devices (effects.Ask u number) line =
    ((slice_index_or devices u absent).connected ≡ true) × (fits line (slice_index_or devices u absent) ≡ true)
IsPossible devices effect line = Unit {0}

-- The effect changes what the command with this answer changes: the session of its connection, except for what waits,
-- the UPSes, and how many numbers are given.
abbrev pub Does : Scene → Command → Answer → Effect → List ℕ → Type 0
Does s command reply effect line =
    ((k : Session) →
    affected effect k ≡ record (answered (with_numbers s.configuration.upses s.numbers) command reply k) { waits = k.waits })
    × ((supplies : List Supply) →
    acting effect line supplies ≡ act_on (target (with_numbers s.configuration.upses s.numbers) command) (acted command reply) supplies)
    × (given_with (number_of effect) s.given ≡ given_then reply s.given)

-- ---- what a line and its answer change

-- a session, with this text added to what waits for it
abbrev pub said : List ℕ → Session → Session
said text k = record k { waits = k.waits ++ text }

-- a user name or a password of the command has at most CREDENTIAL_MAX bytes
abbrev pub HasShortNames : Command → Type 0
HasShortNames (Asks (requests.Username name)) = length name ≤ CREDENTIAL_MAX
HasShortNames (Asks (requests.Password password)) = length password ≤ CREDENTIAL_MAX
HasShortNames command = Unit {0}

-- the content after an answer to a command of c, with the unfinished line of c unchanged
abbrev pub answered_by : ℕ → Command → Answer → Content → Content
answered_by c command reply s = record s {
  sessions = update c (λ k. answered (numbering_of s) command reply k) s.sessions;
  supplies = act_on (target (numbering_of s) command) (acted command reply) s.supplies;
  given = given_then reply s.given;
}
