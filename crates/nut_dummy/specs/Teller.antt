-- What a driver holds, what may change a variable's value, and what the driver reports.
use Rattle.std.specs.Prelude.{ℕ, ◌||◌, ◌&&◌, Bool, true, not, List, [], ◌++◌, Option, Some, None, if◌then◌else◌, codes, decimal, is_some}
use Rattle.std.specs.List.{flat_map, list_any}
use Rattle.std.specs.Option.{option_and_then, option_map_or, option_or}
use Rattle.std.specs.Result.{result_ok}
use Rattle.std.specs.Str.{bytes_eq}
use Rattle.nut_words.specs.Lines.{LineText, Text, TooLong}
use Rattle.nut_words.specs.Reader.{spelled}
use Rattle.nut_proto.specs.declared.driver_ask.DriverAsk.{DriverAsk}
use Rattle.nut_proto.specs.DriverAsks.{ask_of}
use Rattle.nut_dummy.specs.Due.{latest}
use Rattle.nut_dummy.specs.Script.{Step}
use Rattle.nut_dummy.specs.Telling.{text, variable_messages, closing_messages}
use Rattle.nut_dummy.specs.Writable.{may_be}

-- a variable: the values that it gets in a round, its value if it has one, and whether it was reported on this link
pub record Variable : Type 0 where
  pub name : List ℕ
  pub steps : List Step
  pub value : Option (List ℕ)
  pub told : Bool

-- the variables, ascending by name; whether DUMPALL was asked on this link; the bytes that wait
pub record Teller : Type 0 where
  pub variables : List Variable
  pub asked : Bool
  pub waits : List ℕ

-- what may change values
pub data Change : Type 0 where
  -- time passes, from `after` to `until`, in seconds since the start
  Passing : (round after until : ℕ) → Change
  -- a client sets a variable
  Assigning : (name value : List ℕ) → Change
  -- a command sets a variable
  Doing : (name value : List ℕ) → Change

-- A client's SET is obeyed if the variable has a value and may be set to the new one.
abbrev pub is_assigned : List ℕ → List ℕ → List ℕ → Option (List ℕ) → Bool
is_assigned name value own before = bytes_eq own name && is_some before && may_be own value

-- the value of the variable `own` after a change
abbrev pub value_after : Change → List ℕ → List Step → Option (List ℕ) → Option (List ℕ)
value_after (Passing round after until) own steps before = option_or (latest round after until steps) before
value_after (Assigning name value) own steps before = if is_assigned name value own before then Some value else before
value_after (Doing name value) own steps before = if bytes_eq own name then Some value else before

-- whether two values differ
abbrev pub differ : Option (List ℕ) → Option (List ℕ) → Bool
differ (Some a) (Some b) = not (bytes_eq a b)
differ a b = is_some a || is_some b

-- Whether a change of a variable is reported: its value differs, or a client set it.
abbrev pub is_told : Change → List ℕ → List Step → Option (List ℕ) → Bool
is_told (Assigning name value) own steps before = is_assigned name value own before
is_told change own steps before = differ before (value_after change own steps before)

-- the lines of a variable that has a value
abbrev pub lines_of : Bool → List ℕ → Option (List ℕ) → List ℕ
lines_of limited name value = option_map_or (λ x. text (variable_messages limited name x)) value []

-- the lines that report a change of a variable, with its limits if it wasn't reported on this link before
abbrev pub says : Change → Variable → List ℕ
says change v = if is_told change v.name v.steps v.value then lines_of (not v.told) v.name (value_after change v.name v.steps v.value) else []

-- A dump: each variable that has a value, with its limits, and the end of a dump.
abbrev pub dump : List Variable → List ℕ
dump variables = flat_map (λ v. lines_of true v.name v.value) variables ++ text closing_messages

-- whether a change is what was asked for: a client's SET is, if it is obeyed for a variable
abbrev pub is_done : Change → List Variable → Bool
is_done (Assigning name value) variables = list_any (λ v. is_assigned name value v.name v.value) variables
is_done change variables = true

-- How a request ended, if it has a number: 0 says that it was done, 1 that it wasn't.
abbrev pub ended : Option ℕ → Bool → List ℕ
ended None done = []
ended (Some number) done = codes "TRACKING " ++ (decimal number ++ (if done then codes " 0\n" else codes " 1\n"))

-- what a line asks, if anything
abbrev pub asked_by : LineText → Option DriverAsk
asked_by (Text line) = option_and_then ask_of (result_ok (spelled line))
asked_by TooLong = None
