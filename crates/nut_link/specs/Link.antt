-- What a link is between two calls, and how each call and each line changes it.
use Rattle.std.specs.Prelude.{ℕ, ◌==◌, nat_le, Bool, true, false, List, [], length, drop, Option, Some, None, is_some, Result, Ok, Err, if◌then◌else◌}
use Rattle.nut_words.specs.Hearing.{heard_all}
use Rattle.nut_words.specs.Lines.{LineText, Text, TooLong, lines_after, rest_after}
use Rattle.nut_proto.specs.Answers.{answer_in}
use Rattle.nut_proto.specs.declared.answer.Answer.{Answer}
use Rattle.nut_proto.specs.declared.answer.AnswerFault.{AnswerFault}
use Rattle.nut_proto.specs.declared.request.Request.{Request}
use Rattle.nut_link.specs.Exchange.{Exchange, Stage}
use Rattle.nut_link.specs.Exchange as stages
use Rattle.nut_link.specs.declared.fault.LinkFault.{LinkFault}
use Rattle.nut_link.specs.declared.fault.LinkFault.TheVariants.{BadLine, OutOfOrder, BadQuery, TooMuchTaken}
use Rattle.nut_link.specs.declared.outcome.Outcome.{Outcome}
use Rattle.nut_link.specs.Asking.{Asked, query_of, is_writable}
use Rattle.nut_link.specs.Matching.{Progress, Listing, Complete, progress}

-- The unfinished line of what the server sent, and the exchange: its stage, and the fault with which the link failed,
-- if it did.
pub record LinkValue : Type 0 where
  pub rest : LineText
  pub exchange : Exchange

-- a link on which nothing was said
abbrev pub fresh : LinkValue
fresh = record { rest = Text []; exchange = record { stage = stages.Idle; fault = None } }

-- The stage of a query after this progress.
abbrev pub stage_after : Asked → Result Progress LinkFault → Result Stage LinkFault
stage_after query (Ok (Listing rows)) = Ok (stages.Asked (record query { rows = Some rows }))
stage_after query (Ok (Complete outcome)) = Ok (stages.Answered outcome)
stage_after query (Err fault) = Err fault

-- A line counts as an answer only once the server took all bytes of the query.
abbrev pub progress_of : Asked → Answer → Result Progress LinkFault
progress_of query answer =
    if length query.waits == 0 then progress query.expected query.rows answer else Err OutOfOrder

-- the stage after an answer, or the fault
abbrev pub on_answer : Stage → Answer → Result Stage LinkFault
on_answer (stages.Asked query) answer = stage_after query (progress_of query answer)
on_answer stages.Idle answer = Err OutOfOrder
on_answer (stages.Answered outcome) answer = Err OutOfOrder

-- A line that cannot be split into words, or has none, is `BadLine`.
abbrev pub on_read : Stage → Result Answer AnswerFault → Result Stage LinkFault
on_read stage (Ok answer) = on_answer stage answer
on_read stage (Err fault) = Err BadLine

-- The stage after a line, or the fault. A line that is too long is `BadLine`.
abbrev pub on_line : Stage → LineText → Result Stage LinkFault
on_line stage (Text text) = on_read stage (answer_in text)
on_line stage TooLong = Err BadLine

-- What a fault leaves of a stage: an answer that was complete before can still be taken out.
abbrev pub left_of : Stage → Stage
left_of stages.Idle = stages.Idle
left_of (stages.Asked query) = stages.Idle
left_of (stages.Answered outcome) = stages.Answered outcome

-- the exchange after it failed with this fault
abbrev pub failed : LinkFault → Exchange → Exchange
failed fault e = record { stage = left_of e.stage; fault = Some fault }

-- the exchange after this stage, or this fault
abbrev pub moved : Exchange → Result Stage LinkFault → Exchange
moved e (Ok stage) = record { stage = stage; fault = None }
moved e (Err fault) = failed fault e

-- The exchange after a line. One that failed hears nothing.
abbrev pub heard : LineText → Exchange → Exchange
heard line e = if is_some e.fault then e else moved e (on_line e.stage line)

-- the exchange after these lines in turn
abbrev pub lines_heard : List LineText → Exchange → Exchange
lines_heard lines e = heard_all heard lines e

-- A link that failed keeps no unfinished line.
abbrev pub link_with : LineText → Exchange → LinkValue
link_with rest e = record { rest = if is_some e.fault then Text [] else rest; exchange = e }

-- The link after a piece of what the server sends: it heard the lines that the piece completes, and keeps the rest.
abbrev pub fed : List ℕ → LinkValue → LinkValue
fed piece v = link_with (rest_after v.rest piece) (lines_heard (lines_after v.rest piece) v.exchange)

abbrev pub is_idle : Stage → Bool
is_idle stages.Idle = true
is_idle (stages.Asked query) = false
is_idle (stages.Answered outcome) = false

-- the first fault if there is one, else the second
abbrev pub or_else : Option LinkFault → Option LinkFault → Option LinkFault
or_else (Some fault) other = Some fault
or_else None other = other

-- Why a query is refused, if it is: the link failed; a query or its answer is still there; or it isn't writable.
abbrev pub ask_fault : Request → Exchange → Option LinkFault
ask_fault request e =
    or_else e.fault (if is_idle e.stage then (if is_writable request then None else Some BadQuery) else Some OutOfOrder)

-- the exchange after a query was asked; a query that is refused changes nothing
abbrev pub asked : Request → Exchange → Exchange
asked request e = record e { stage = if is_some (ask_fault request e) then e.stage else stages.Asked (query_of request) }

-- the bytes of the query that wait to be sent
abbrev pub waits_in : Stage → List ℕ
waits_in stages.Idle = []
waits_in (stages.Asked query) = query.waits
waits_in (stages.Answered outcome) = []

abbrev pub waits : Exchange → List ℕ
waits e = waits_in e.stage

-- why taking n bytes is refused, if it is
abbrev pub take_fault : ℕ → Exchange → Option LinkFault
take_fault n e = or_else e.fault (if nat_le n (length (waits e)) then None else Some TooMuchTaken)

-- the stage after the first n bytes were taken
abbrev pub stage_taken : ℕ → Stage → Stage
stage_taken n stages.Idle = stages.Idle
stage_taken n (stages.Asked query) = stages.Asked (record query { waits = drop n query.waits })
stage_taken n (stages.Answered outcome) = stages.Answered outcome

abbrev pub taken : ℕ → Exchange → Exchange
taken n e = record e { stage = if is_some (take_fault n e) then e.stage else stage_taken n e.stage }

-- the answer, if it is complete
abbrev pub outcome_in : Stage → Option Outcome
outcome_in stages.Idle = None
outcome_in (stages.Asked query) = None
outcome_in (stages.Answered outcome) = Some outcome

abbrev pub outcome_of : Exchange → Option Outcome
outcome_of e = outcome_in e.stage

-- the stage after its answer, if it has one, was taken out
abbrev pub stage_without : Stage → Stage
stage_without stages.Idle = stages.Idle
stage_without (stages.Asked query) = stages.Asked query
stage_without (stages.Answered outcome) = stages.Idle

abbrev pub taken_out : Exchange → Exchange
taken_out e = record e { stage = stage_without e.stage }

-- the link with another exchange
abbrev pub with_exchange : Exchange → LinkValue → LinkValue
with_exchange e v = record v { exchange = e }

-- the result of a call that is refused with this fault, if it is
abbrev pub answer_by : Option LinkFault → Result (Unit {0}) LinkFault
answer_by None = Ok tt
answer_by (Some fault) = Err fault
