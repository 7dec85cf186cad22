-- What each tool asks and prints: one query after the other, each chosen by the answers so far, and the text that is
-- printed once the last answer has come (upsc(8), upsrw(8), upscmd(8), in the forms of docs/programs.md).
use Rattle.std.specs.Prelude.{ℕ, zero, suc, Bool, true, List, [], ◌∷◌, ◌++◌, codes, slice_index_or, Option, Some, None, if◌then◌else◌}
use Rattle.std.specs.Option.{option_map_or}
use Rattle.std.specs.List.{flat_map, list_any}
use Rattle.std.specs.Str.{bytes_eq}
use Rattle.nut_proto.specs.declared.request.ListQuery.TheVariants as queries
use Rattle.nut_proto.specs.declared.request.Request.{Request}
use Rattle.nut_proto.specs.declared.request.Request.TheVariants as requests
use Rattle.nut_proto.specs.declared.tracking.TrackingStatus.{TrackingStatus}
use Rattle.nut_proto.specs.declared.tracking.TrackingStatus.TheVariants as statuses
use Rattle.nut_proto.specs.Tracking.{tracking_number, tracking_status}
use Rattle.nut_client.specs.declared.failure.ToolFailure.{ToolFailure}
use Rattle.nut_client.specs.declared.failure.ToolFailure.TheVariants as failures
use Rattle.nut_link.specs.declared.outcome.Outcome.{Outcome}
use Rattle.nut_link.specs.declared.outcome.Outcome.TheVariants as outcomes
use Rattle.nut_client.specs.declared.printing.RowForm.{RowForm}
use Rattle.nut_client.specs.declared.printing.RowForm.TheVariants.{Pairs, Firsts, Options, Ranges}
use Rattle.nut_client.specs.declared.printing.AllowedValues.{AllowedValues}
use Rattle.nut_client.specs.declared.printing.AllowedValues.TheVariants as values
use Rattle.nut_client.specs.declared.deeds.TheConstants.{PAUSES_MAX}
use Rattle.nut_client.specs.declared.wanted.UpsDeed.{UpsDeed}
use Rattle.nut_client.specs.declared.wanted.UpsDeed.TheVariants as deeds
use Rattle.nut_client.specs.declared.wanted.Until.{Until}
use Rattle.nut_client.specs.declared.wanted.Until.TheVariants as untils
use Rattle.nut_client.specs.declared.wanted.Wanted.{Wanted}
use Rattle.nut_client.specs.declared.wanted.Wanted.TheVariants as wanteds
use Rattle.nut_client.specs.Json.{json_object}

-- What is left to do: to print a text, to fail, to ask a query and continue by its outcome, or to pause for a second
-- and continue.
pub data Script : Type 0 where
  Prints : List ℕ → Script
  Fails : ToolFailure → Script
  Asks : Request → (Outcome → Script) → Script
  Pauses : Script → Script

-- Continues with the rows of a list. A refusal ends the tool. No other outcome belongs to a LIST.
abbrev pub on_rows : (List (List (List ℕ)) → Script) → Outcome → Script
on_rows next (outcomes.List rows) = next rows
on_rows next (outcomes.Refused name) = Fails (failures.Refused name)
on_rows next outcomes.Done = Fails failures.BadAnswer
on_rows next (outcomes.Said words) = Fails failures.BadAnswer

-- Continues with the words that answer a GET. A refusal ends the tool. No other outcome belongs to a GET.
abbrev pub on_words : (List (List ℕ) → Script) → Outcome → Script
on_words next (outcomes.Said words) = next words
on_words next (outcomes.Refused name) = Fails (failures.Refused name)
on_words next outcomes.Done = Fails failures.BadAnswer
on_words next (outcomes.List rows) = Fails failures.BadAnswer

-- Continues once the server answered OK, with the number of a tracked request or without one. A refusal ends the tool. A
-- list is no answer to such a request.
abbrev pub on_done : Script → Outcome → Script
on_done next outcomes.Done = next
on_done next (outcomes.Refused name) = Fails (failures.Refused name)
on_done next (outcomes.Said words) = next
on_done next (outcomes.List rows) = Fails failures.BadAnswer

-- the word with this number, counted from 0; empty if there is none
abbrev pub word : ℕ → List (List ℕ) → List ℕ
word number words = slice_index_or words number []

-- a printed line of these parts
abbrev pub line : List (List ℕ) → List ℕ
line parts = flat_map (λ part. part) parts ++ 10 ∷ []

-- the line that shows a row
abbrev pub row_line : RowForm → List (List ℕ) → List ℕ
row_line Pairs row = line (word 0 row ∷ codes ": " ∷ word 1 row ∷ [])
row_line Firsts row = line (word 0 row ∷ [])
row_line Options row = line (codes "Option: " ∷ word 0 row ∷ [])
row_line Ranges row = line (codes "Range: " ∷ word 0 row ∷ codes ".." ∷ word 1 row ∷ [])

abbrev pub row_lines : RowForm → List (List (List ℕ)) → List ℕ
row_lines form rows = flat_map (row_line form) rows

-- lists that print a line for each row
abbrev pub lists : Request → RowForm → Script
lists query form = Asks query (on_rows (λ rows. Prints (row_lines form rows)))

-- `Type:`, and each word of a variable's type after a blank
abbrev pub type_line : List (List ℕ) → List ℕ
type_line kind = codes "Type:" ++ flat_map (λ w. 32 ∷ w) kind ++ 10 ∷ []

abbrev pub has_word : List ℕ → List (List ℕ) → Bool
has_word wanted words = list_any (λ w. bytes_eq w wanted) words

-- whether a variable of this type has listed values, ranges or neither
abbrev pub values_of : List (List ℕ) → AllowedValues
values_of kind = if has_word (codes "ENUM") kind then values.Enum else (if has_word (codes "RANGE") kind then values.Range else values.Free)

-- Asks which values a variable may have, and continues with the text and these.
abbrev pub with_values : List ℕ → List ℕ → AllowedValues → List ℕ → (List ℕ → Script) → Script
with_values ups variable values.Enum text next =
    Asks (requests.List (queries.Enum ups variable)) (on_rows (λ rows. next (text ++ row_lines Options rows)))
with_values ups variable values.Range text next =
    Asks (requests.List (queries.Range ups variable)) (on_rows (λ rows. next (text ++ row_lines Ranges rows)))
with_values ups variable values.Free text next = next text

-- what is shown above the values that a variable may have: its name, its type, its value
abbrev pub with_heading : List (List ℕ) → List (List ℕ) → List ℕ → List ℕ
with_heading row kind text =
    text ++ line (codes "[" ∷ word 0 row ∷ codes "]" ∷ []) ++ type_line kind ++ line (codes "Value: " ∷ word 1 row ∷ [])

-- Appends each writable variable to the text.
abbrev pub settings : List ℕ → List ℕ → List (List (List ℕ)) → Script
settings ups text [] = Prints text
settings ups text (row ∷ rows) =
    Asks (requests.GetType ups (word 0 row)) (on_words (λ kind.
    with_values ups (word 0 row) (values_of kind) (with_heading row kind text) (λ shown. settings ups (shown ++ line []) rows)))

-- Appends each command with its description to the text.
abbrev pub commands : List ℕ → List ℕ → List (List (List ℕ)) → Script
commands ups text [] = Prints text
commands ups text (row ∷ rows) =
    Asks (requests.GetCmdDesc ups (word 0 row)) (on_words (λ words.
    commands ups (text ++ line (word 0 row ∷ codes " - " ∷ word 0 words ∷ [])) rows))

-- the query that makes the UPS do something
abbrev pub deed_query : List ℕ → UpsDeed → Request
deed_query ups (deeds.Set variable value) = requests.SetVar ups variable value
deed_query ups (deeds.Command command parameter) = requests.InstCmd ups command parameter

abbrev pub does : List ℕ → UpsDeed → Script
does ups deed = Asks (deed_query ups deed) (on_done (Prints (line (codes "OK" ∷ []))))

-- Continues with the number of a tracked request. A refusal ends the tool, and so does an OK without a number.
abbrev pub on_number : (ℕ → Script) → Outcome → Script
on_number next (outcomes.Said words) = option_map_or next (tracking_number (word 0 words)) (Fails failures.Untracked)
on_number next outcomes.Done = Fails failures.Untracked
on_number next (outcomes.Refused name) = Fails (failures.Refused name)
on_number next (outcomes.List rows) = Fails failures.BadAnswer

-- Continues by the status of a request: with this if it is pending. Any other status ends the tool.
abbrev pub by_status : Script → Option TrackingStatus → Script
by_status pending (Some statuses.Pending) = pending
by_status pending (Some statuses.Success) = Prints (line (codes "SUCCESS" ∷ []))
by_status pending (Some statuses.Failed) = Fails (failures.Unconfirmed statuses.Failed)
by_status pending (Some statuses.Unknown) = Fails (failures.Unconfirmed statuses.Unknown)
by_status pending None = Fails failures.BadAnswer

abbrev pub asks_status : ℕ → Script → Script
asks_status number pending = Asks (requests.GetTrackingOf number) (on_words (λ words. by_status pending (tracking_status (word 0 words))))

-- what follows if the request of this number is pending and this many pauses are left: each of them, and then the
-- question again
abbrev pub if_pending : ℕ → ℕ → Script
if_pending number zero = Fails (failures.Unconfirmed statuses.Pending)
if_pending number (suc pauses) = Pauses (asks_status number (if_pending number pauses))

-- Asks how the request of this number ended until it has ended, or there were as many pauses as may be.
abbrev pub waits : ℕ → Script
waits number = asks_status number (if_pending number PAUSES_MAX)

abbrev pub does_tracked : List ℕ → UpsDeed → Script
does_tracked ups deed = Asks (deed_query ups deed) (on_number waits)

abbrev pub does_until : List ℕ → UpsDeed → Until → Script
does_until ups deed untils.Accepted = does ups deed
does_until ups deed untils.Ended = Asks (requests.SetTracking true) (on_done (does_tracked ups deed))

abbrev pub gives_password : List ℕ → List ℕ → UpsDeed → Until → Script
gives_password ups password deed until = Asks (requests.Password password) (on_done (does_until ups deed until))

-- What a tool does that is asked for this of a UPS.
abbrev pub script : List ℕ → Wanted → Script
script ups wanteds.Variables = lists (requests.List (queries.Var ups)) Pairs
script ups wanteds.Object = Asks (requests.List (queries.Var ups)) (on_rows (λ rows. Prints (json_object rows)))
script ups (wanteds.Value variable) = Asks (requests.GetVar ups variable) (on_words (λ words. Prints (line (word 0 words ∷ []))))
script ups (wanteds.Member variable) =
    Asks (requests.GetVar ups variable) (on_words (λ words. Prints (json_object ((variable ∷ word 0 words ∷ []) ∷ []))))
script ups wanteds.Names = lists (requests.List queries.Ups) Firsts
script ups wanteds.Descriptions = lists (requests.List queries.Ups) Pairs
script ups wanteds.Clients = lists (requests.List (queries.Client ups)) Firsts
script ups wanteds.Settings = Asks (requests.List (queries.Rw ups)) (on_rows (settings ups []))
script ups wanteds.Commands = Asks (requests.List (queries.Cmd ups)) (on_rows (commands ups []))
script ups (wanteds.Does user password deed until) = Asks (requests.Username user) (on_done (gives_password ups password deed until))
