-- What is asked on a link, and what the answers say (RFC 9271; upsmon(8)).
use Rattle.std.specs.Prelude.{ℕ, ◌==◌, Bool, true, false, List, ◌∷◌, codes, Option, Some, None, Result, Ok, Err}
use Rattle.std.specs.List.{list_any, slice_split}
use Rattle.std.specs.Str.{bytes_eq}
use Rattle.nut_words.specs.Bytes.{blank}
use Rattle.nut_words.specs.Lines.{LineText, Text, TooLong}
use Rattle.nut_words.specs.Number.{digits_value}
use Rattle.nut_proto.specs.Answers.{answer_in}
use Rattle.nut_proto.specs.declared.answer.Answer.{Answer}
use Rattle.nut_proto.specs.declared.answer.AnswerFault.{AnswerFault}
use Rattle.nut_proto.specs.declared.request.Request.{Request}
use Rattle.nut_proto.specs.declared.request.Request.TheVariants as requests
use Rattle.nut_link.specs.declared.fault.LinkFault.{LinkFault}
use Rattle.nut_link.specs.declared.outcome.Outcome.{Outcome}
use Rattle.nut_link.specs.declared.outcome.Outcome.TheVariants as outcomes
use Rattle.nut_link.specs.Matching.{Progress, Complete, expected, progress}
use Rattle.nut_monitor_spec.specs.declared.Query.{Query}
use Rattle.nut_monitor_spec.specs.declared.Query.TheVariants.{Username, Password, Login, Primary, Status, Fsd, NumLogins}
use Rattle.nut_monitor_spec.specs.declared.StatusFlags.{StatusFlags}
use Rattle.nut_monitor_spec.specs.Configuration.{Line}

-- the request that a query sends
abbrev pub request : Line → Query → Request
request line Username = requests.Username line.user
request line Password = requests.Password line.password
request line Login = requests.Login line.ups
request line Primary = requests.Primary line.ups
request line Status = requests.GetVar line.ups (codes "ups.status")
request line Fsd = requests.Fsd line.ups
request line NumLogins = requests.GetNumLogins line.ups

-- ---- whether a line answers a query

abbrev pub complete : Result Progress LinkFault → Option Outcome
complete (Ok (Complete outcome)) = Some outcome
complete progress = None

abbrev pub outcome_by : Request → Result Answer AnswerFault → Option Outcome
outcome_by asked (Ok answer) = complete (progress (expected asked) None answer)
outcome_by asked (Err fault) = None

-- The outcome of a line as the answer to a request. None if it doesn't read as an answer, or not as one to this
-- request.
abbrev pub outcome_in : Request → LineText → Option Outcome
outcome_in asked (Text text) = outcome_by asked (answer_in text)
outcome_in asked TooLong = None

-- ---- what an answer says

-- the words of a value, separated by blanks
abbrev pub parted : List ℕ → List (List ℕ)
parted value = slice_split (λ byte. byte == blank) value

-- the words of the status, if this is the answer to the status query and has one
abbrev pub status_in : Query → Outcome → Option (List (List ℕ))
status_in Status (outcomes.Said (value ∷ more)) = Some (parted value)
status_in query outcome = None

-- whether the status query was refused
abbrev pub is_no_status : Query → Outcome → Bool
is_no_status Status (outcomes.Refused name) = true
is_no_status query outcome = false

-- whether the FSD was answered OK
abbrev pub is_forced : Query → Outcome → Bool
is_forced Fsd outcomes.Done = true
is_forced query outcome = false

-- how many are logged in, if this is the answer to that query and has it
abbrev pub logins_in : Query → Outcome → Option ℕ
logins_in NumLogins (outcomes.Said (digits ∷ more)) = Some (digits_value digits)
logins_in query outcome = None

abbrev pub has : List ℕ → List (List ℕ) → Bool
has word words = list_any (bytes_eq word) words

-- the flags that the words of a status set
abbrev pub flags_of : List (List ℕ) → StatusFlags
flags_of words = record {
  on_line = has (codes "OL") words;
  on_battery = has (codes "OB") words;
  low_battery = has (codes "LB") words;
  forced_shutdown = has (codes "FSD") words;
  replace_battery = has (codes "RB") words;
  calibrating = has (codes "CAL") words;
}
