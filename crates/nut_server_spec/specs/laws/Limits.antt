-- How long an answer may be, and how many bytes may wait for a client, if the configuration is within the limits of its
-- files.
use Rattle.std.specs.Prelude.{◌≡◌, ℕ, ◌≤◌, true, List, [], ◌∷◌, length, Some}
use Rattle.std.specs.List.{AllByRecursion}
use Rattle.nut_conf.specs.declared.limits.TheConstants.{CONNECTIONS_MAX, DESCRIPTION_MAX, UPSES_MAX}
use Rattle.nut_words.specs.Lines.{LineText}
use Rattle.nut_words.specs.Name.{is_name}
use Rattle.nut_words.specs.declared.limits.TheConstants.{UPS_NAME_MAX}
use Rattle.nut_server_spec.specs.Configuration.{Configuration, Ups}
use Rattle.nut_server_spec.specs.Event.{Event, Reload}
use Rattle.nut_server_spec.specs.Answer.{text_of}
use Rattle.nut_server_spec.specs.Trace.{answer_to}
use Rattle.nut_server_spec.specs.Content.{Session, content, past}
use Rattle.nut_server_spec.specs.Acceptance.{IsAccepted, session_of}

-- a UPS has a name of at most UPS_NAME_MAX bytes, and a description of at most DESCRIPTION_MAX
pub record IsUpsWithin (ups : Ups) : Type 0 where
  pub name : is_name UPS_NAME_MAX ups.name ≡ true
  pub description : length ups.description ≤ DESCRIPTION_MAX

-- a name's text has at most 128 bytes
abbrev pub IsTextWithin : List ℕ × List ℕ → Type 0
IsTextWithin row = length row.1 ≤ 128

-- The limits of the files: at most UPSES_MAX UPSes, each within its limits; at most CONNECTIONS_MAX connections at once;
-- and each text of a variable or a command within its limit.
pub record IsWithin (configuration : Configuration) : Type 0 where
  pub upses : length configuration.upses ≤ UPSES_MAX
  pub each_ups : AllByRecursion IsUpsWithin configuration.upses
  pub connections : configuration.most_connections ≤ CONNECTIONS_MAX
  pub variable_texts : AllByRecursion IsTextWithin configuration.variable_texts
  pub command_texts : AllByRecursion IsTextWithin configuration.command_texts

-- The first configuration and those of all reloads of a history are within the limits.
abbrev pub AreWithin : Configuration → List Event → Type 0
AreWithin first [] = IsWithin first
AreWithin first (Reload configuration ∷ h) = IsWithin configuration × AreWithin first h
AreWithin first (e ∷ h) = AreWithin first h

-- a bound for the answer to one line: that for a LIST VAR of VARIABLES_MAX variables with `FSD ` before one value
abbrev pub longest_answer : ℕ
longest_answer = 578_146

-- No answer to one line has more bytes: not the answers given in a history of accepted events, and not the answer to a
-- further line of any connection.
pub record AnswersAreBounded : Type 0 where
  pub given :
      (first : Configuration) (h : List Event) → AreWithin first h → IsAccepted first h →
      AllByRecursion (λ e. length (text_of e.answer) ≤ longest_answer) (past first h)
  pub coming :
      (first : Configuration) (h : List Event) (c : ℕ) (line : LineText) → AreWithin first h → IsAccepted first h →
      length (text_of (answer_to first (past first h) c line)) ≤ longest_answer

-- The bytes of 256 answers of this length. A piece of at most 512 bytes completes at most 256 lines that are answered: the
-- first may have begun in an earlier piece, and each other line has a byte before its line feed.
abbrev pub most_waits : ℕ
most_waits = 148_005_376

-- In every history of accepted events, at most this many bytes wait for each client.
abbrev pub WaitsAreBounded : Type 0
WaitsAreBounded =
    (first : Configuration) (h : List Event) → AreWithin first h → IsAccepted first h →
    (c : ℕ) (k : Session) → session_of c (content first h).sessions ≡ Some k → length k.waits ≤ most_waits
