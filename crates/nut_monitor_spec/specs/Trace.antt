-- The past of a monitor: each event with what it brought, the newest first, and what the past says. A definition that
-- looks for a moment returns the past as it was at that moment, which is a tail of the list.
use Rattle.std.specs.Prelude.{ℕ, suc, ◌==◌, ◌+◌, max, nat_lt, Bool, true, false, not, ◌&&◌, if◌then◌else◌, List, [], ◌∷◌, ◌++◌, length, take, drop, Option, Some, None, is_some, is_none}
use Rattle.std.specs.List.{list_any}
use Rattle.std.specs.Option.{option_map}
use Rattle.nut_words.specs.Lines.{LineText, rest, lines_after}
use Rattle.nut_conf.specs.declared.notice.Notice.TheVariants as kinds
use Rattle.nut_conf.specs.declared.notice.Notice.{Notice as Kind}
use Rattle.nut_proto.specs.Requests.{request_line}
use Rattle.nut_link.specs.declared.outcome.Outcome.{Outcome}
use Rattle.nut_monitor_spec.specs.declared.Communication.{Communication}
use Rattle.nut_monitor_spec.specs.declared.Communication.TheVariants.{Never, Bad}
use Rattle.nut_monitor_spec.specs.declared.Known.{Known}
use Rattle.nut_monitor_spec.specs.declared.LastAnswer.{LastAnswer}
use Rattle.nut_monitor_spec.specs.declared.LastQuery.{LastQuery}
use Rattle.nut_monitor_spec.specs.declared.Notice.{Notice}
use Rattle.nut_monitor_spec.specs.declared.Phase.{Phase}
use Rattle.nut_monitor_spec.specs.declared.Query.{Query}
use Rattle.nut_monitor_spec.specs.Configuration.{Line, Configuration, line_in}
use Rattle.nut_monitor_spec.specs.Event.{Event, Moment, Linked, LinkBytes, LinkLost, LinkTook, OutOfMemory, NoticeTaken}
use Rattle.nut_monitor_spec.specs.Query.{request, outcome_in, status_in, is_forced, logins_in, flags_of}
use Rattle.nut_monitor_spec.specs.Decision.{is_critical, power_where, each_primary, is_alone, is_calm, communication_then, told, shutdown_told, when, answer_notices, loss_notices, tells_silence, phase_at, is_over_by, next_query}

-- A query that was put on a link, with the moment, and the number of the event at whose end it was put, counted from 1.
pub record Asked : Type 0 where
  pub query : Query
  pub moment : ℕ
  pub event : ℕ

-- the outcome of a query on a link
pub record Answer : Type 0 where
  pub link : ℕ
  pub asked : Asked
  pub outcome : Outcome

-- An event, the answer that it completed, the link that it lost, the query that was put on each link at its end, and
-- the notices that it gave, in order. An event completes at most one answer: only one query is outstanding on a link,
-- and the next is put only at the end of an event.
pub record Entry : Type 0 where
  pub event : Event
  pub answer : Option Answer
  pub lost : Option ℕ
  pub put : ℕ → Option Query
  pub notices : List Notice

-- ---- functions on pasts

-- the past as it was when the newest entry came that passes the test; empty if none passes. The test sees an entry and
-- the past before it.
abbrev pub latest : (Entry → List Entry → Bool) → List Entry → List Entry
latest test [] = []
latest test (entry ∷ past) = if test entry past then entry ∷ past else latest test past

-- the first of two pasts if it isn't empty, else the second
abbrev pub or_else : List Entry → List Entry → List Entry
or_else [] other = other
or_else (entry ∷ past) other = entry ∷ past

-- the past when it first passed the test; empty if it never did
abbrev pub earliest : (List Entry → Bool) → List Entry → List Entry
earliest test [] = []
earliest test (entry ∷ past) = or_else (earliest test past) (if test (entry ∷ past) then entry ∷ past else [])

abbrev pub is_any : List Entry → Bool
is_any [] = false
is_any (entry ∷ past) = true

-- the element that has this many older ones, in a list with the newest first
abbrev pub number : {X : Type 0} → ℕ → List X → Option X
number n [] = None
number n (x ∷ xs) = if length xs == n then Some x else number n xs

-- ---- time

-- the time after an event: the greatest moment so far
abbrev pub clock_after : Event → ℕ → ℕ
clock_after (Moment t) before = max before t
clock_after event before = before

-- the time, 0 before any moment
abbrev pub clock : List Entry → ℕ
clock [] = 0
clock (entry ∷ past) = clock_after entry.event (clock past)

-- the time of a past that isn't empty
abbrev pub moment_of : List Entry → Option ℕ
moment_of [] = None
moment_of (entry ∷ past) = Some (clock (entry ∷ past))

-- ---- a link

abbrev pub is_link : ℕ → Option ℕ → Bool
is_link i None = false
is_link i (Some j) = j == i

-- What an event leaves of a value that is counted anew on link i each time the link is made.
abbrev pub since_linked : {A : Type 0} → A → ℕ → Event → A → A
since_linked start i (Linked j) before = if j == i then start else before
since_linked start i event before = before

-- whether link i is up: it was made, and not lost since
abbrev pub linked : ℕ → List Entry → Bool
linked i [] = false
linked i (entry ∷ past) = if is_link i entry.lost then false else since_linked true i entry.event (linked i past)

-- all bytes that came on link i since it was made, joined
abbrev pub input_after : ℕ → Event → List ℕ → List ℕ
input_after i (LinkBytes j piece) before = if j == i then before ++ piece else before
input_after i event before = since_linked [] i event before

abbrev pub input : ℕ → List Entry → List ℕ
input i [] = []
input i (entry ∷ past) = input_after i entry.event (input i past)

-- how many bytes the server took on link i since it was made
abbrev pub taken_after : ℕ → Event → ℕ → ℕ
taken_after i (LinkTook j n) before = if j == i then before + n else before
taken_after i event before = since_linked 0 i event before

abbrev pub taken : ℕ → List Entry → ℕ
taken i [] = 0
taken i (entry ∷ past) = taken_after i entry.event (taken i past)

-- the queries on link i since it was made, the newest first
abbrev pub asked_in : ℕ → ℕ → Option Query → List Asked → List Asked
asked_in moment event None older = older
asked_in moment event (Some query) older = record { query = query; moment = moment; event = event } ∷ older

abbrev pub queries : ℕ → List Entry → List Asked
queries i [] = []
queries i (entry ∷ past) =
    asked_in (clock (entry ∷ past)) (length (entry ∷ past)) (entry.put i) (since_linked [] i entry.event (queries i past))

-- the answers on link i since it was made, the newest first
abbrev pub answered_in : ℕ → Option Answer → List Answer → List Answer
answered_in i None older = older
answered_in i (Some answer) older = if answer.link == i then answer ∷ older else older

abbrev pub answers : ℕ → List Entry → List Answer
answers i [] = []
answers i (entry ∷ past) = answered_in i entry.answer (since_linked [] i entry.event (answers i past))

-- the query whose answer is still to come: the oldest without an answer
abbrev pub outstanding : ℕ → List Entry → Option Asked
outstanding i past = number (length (answers i past)) (queries i past)

-- whether a query may be put on link i
abbrev pub may_ask : ℕ → List Entry → Bool
may_ask i past = linked i past && is_none (outstanding i past)

-- the last query on link i since it was made
abbrev pub last_in : List Asked → Option LastQuery
last_in [] = None
last_in (asked ∷ older) = Some (record { query = asked.query; moment = asked.moment })

abbrev pub last_query : ℕ → List Entry → Option LastQuery
last_query i past = last_in (queries i past)

-- the last answer on link i since it was made
abbrev pub last_of : List Answer → Option LastAnswer
last_of [] = None
last_of (answer ∷ older) =
    Some (record { asked = record { query = answer.asked.query; moment = answer.asked.moment }; outcome = answer.outcome })

abbrev pub last_answer : ℕ → List Entry → Option LastAnswer
last_answer i past = last_of (answers i past)

-- the bytes of these queries of a line, joined, the oldest first
abbrev pub joined_queries : Line → List Asked → List ℕ
joined_queries line [] = []
joined_queries line (asked ∷ older) = joined_queries line older ++ request_line (request line asked.query)

-- all bytes that the server is to be sent on link i since it was made
abbrev pub due : Configuration → ℕ → List Entry → List ℕ
due configuration i past = joined_queries (line_in configuration.lines i) (queries i past)

-- the bytes of these that the server took, and those that still wait for it; none wait once the link is lost
abbrev pub sent : Configuration → ℕ → List Entry → List ℕ
sent configuration i past = take (taken i past) (due configuration i past)

abbrev pub waits : Configuration → ℕ → List Entry → List ℕ
waits configuration i past = if linked i past then drop (taken i past) (due configuration i past) else []

-- ---- what is known of a UPS

-- whether an answer belongs to link i and passes the test, by its query and outcome
abbrev pub gives : (Query → Outcome → Bool) → ℕ → Option Answer → Bool
gives test i None = false
gives test i (Some answer) = answer.link == i && test answer.asked.query answer.outcome

abbrev pub gives_status : ℕ → Option Answer → Bool
gives_status i answer = gives (λ query outcome. is_some (status_in query outcome)) i answer

-- the past when the last status of line i came; empty if none came
abbrev pub at_status : ℕ → List Entry → List Entry
at_status i past = latest (λ entry before. gives_status i entry.answer) past

abbrev pub status_of_answer : Option Answer → Option (List (List ℕ))
status_of_answer None = None
status_of_answer (Some answer) = status_in answer.asked.query answer.outcome

abbrev pub newest_answer : List Entry → Option Answer
newest_answer [] = None
newest_answer (entry ∷ past) = entry.answer

-- the words of the last status
abbrev pub status : ℕ → List Entry → Option (List (List ℕ))
status i past = status_of_answer (newest_answer (at_status i past))

-- the moment of the last status, 0 if there is none
abbrev pub polled : ℕ → List Entry → ℕ
polled i past = clock (at_status i past)

abbrev pub are_calm : Option (List (List ℕ)) → Bool
are_calm None = false
are_calm (Some words) = is_calm words

-- The past when the last status came that wasn't both OB and LB; if there is none, the past when the first status came.
-- The first is older than all others, so the newest of these is the one.
abbrev pub at_calm : ℕ → List Entry → List Entry
at_calm i past =
    latest
    (λ entry before. gives_status i entry.answer
    && (if is_any (at_status i before) then are_calm (status_of_answer entry.answer) else true))
    past

abbrev pub calm : ℕ → List Entry → ℕ
calm i past = clock (at_calm i past)

-- communication after an answer, if it belongs to line i; `communication` lets the loss of the link follow
abbrev pub communication_after : ℕ → Option Answer → Communication → Communication
communication_after i None before = before
communication_after i (Some answer) before =
    if answer.link == i then communication_then answer.asked.query answer.outcome before else before

abbrev pub communication : ℕ → List Entry → Communication
communication i [] = Never
communication i (entry ∷ past) =
    if is_link i entry.lost then Bad else communication_after i entry.answer (communication i past)

-- whether a notice is REPLBATT for the UPS of line i
abbrev pub is_replace : ℕ → Notice → Bool
is_replace i notice = is_kind notice.kind && is_link i notice.line
  where
    is_kind : Kind → Bool
    is_kind kinds.Replbatt = true
    is_kind kind = false

-- whether a notice is NOCOMM for the UPS of line i
abbrev pub is_silence : ℕ → Notice → Bool
is_silence i notice = is_kind notice.kind && is_link i notice.line
  where
    is_kind : Kind → Bool
    is_kind kinds.Nocomm = true
    is_kind kind = false

-- the moment of the last notice that passes the test
abbrev pub told_at : (Notice → Bool) → List Entry → Option ℕ
told_at test past = moment_of (latest (λ entry before. list_any test entry.notices) past)

-- whether an FSD of line i was answered OK, on any link
abbrev pub forced : ℕ → List Entry → Bool
forced i past = is_any (latest (λ entry before. gives is_forced i entry.answer) past)

-- the number of logins in the last answer for line i that gave one
abbrev pub logins_of_answer : Option Answer → Option ℕ
logins_of_answer None = None
logins_of_answer (Some answer) = logins_in answer.asked.query answer.outcome

abbrev pub logins : ℕ → List Entry → Option ℕ
logins i past =
    logins_of_answer
    (newest_answer (latest (λ entry before. gives (λ query outcome. is_some (logins_in query outcome)) i entry.answer) past))

abbrev pub known : ℕ → List Entry → Known
known i past = record {
  flags = option_map flags_of (status i past);
  polled = polled i past;
  calm = calm i past;
  communication = communication i past;
  replace_told = told_at (is_replace i) past;
  silence_told = told_at (is_silence i) past;
  forced = forced i past;
  logins = logins i past;
}

-- ---- the shutdown

-- whether the UPS of line i is critical
abbrev pub critical : Configuration → ℕ → List Entry → Bool
critical configuration i past =
    is_critical configuration (line_in configuration.lines i) (clock past) (calm i past) (polled i past)
    (option_map flags_of (status i past))

-- the sum of the power values of the lines whose UPS isn't critical
abbrev pub supply : Configuration → List Entry → ℕ
supply configuration past = power_where (λ i. not (critical configuration i past)) configuration.lines

-- the supply is less than MINSUPPLIES
abbrev pub is_short : Configuration → List Entry → Bool
is_short configuration past = nat_lt (supply configuration past) configuration.min_supplies

-- the past when the shutdown began: at the end of the first event after which the supply was too small. Empty before
abbrev pub begun : Configuration → List Entry → List Entry
begun configuration past = earliest (is_short configuration) past

abbrev pub has_begun : Configuration → List Entry → Bool
has_begun configuration past = is_any (begun configuration past)

-- For each primary line the last count of logins is at most 1. True if no line is primary.
abbrev pub alone : Configuration → List Entry → Bool
alone configuration past = each_primary (λ i. is_alone (logins i past)) configuration.lines

-- Whether Forcing is over. If no line is primary, it is over as soon as it begins.
abbrev pub is_over_at : Configuration → List Entry → Bool
is_over_at configuration past =
    is_over_by configuration (clock past) (alone configuration past) (moment_of (begun configuration past))

-- the past when Final began: at the end of the first event after which Forcing was over. Empty before
abbrev pub ended : Configuration → List Entry → List Entry
ended configuration past = earliest (is_over_at configuration) past

abbrev pub has_ended : Configuration → List Entry → Bool
has_ended configuration past = is_any (ended configuration past)

abbrev pub phase : Configuration → List Entry → Phase
phase configuration past =
    phase_at configuration (clock past) (moment_of (begun configuration past)) (moment_of (ended configuration past))

-- ---- what an event brings

-- the lines that a piece completes on link i
abbrev pub brought : ℕ → List Entry → List ℕ → List LineText
brought i past piece = lines_after (rest (input i past)) piece

abbrev pub answered : ℕ → Asked → Option Outcome → Option Answer
answered i asked None = None
answered i asked (Some outcome) = Some (record { link = i; asked = asked; outcome = outcome })

-- A line answers the outstanding query if it matches that, and if the server took all bytes of the query.
abbrev pub answer_to : Line → ℕ → Option Asked → Bool → LineText → Option Answer
answer_to line i None taken text = None
answer_to line i (Some asked) taken text = answered i asked (if taken then outcome_in (request line asked.query) text else None)

-- whether nothing waits on link i
abbrev pub all_taken : Configuration → ℕ → List Entry → Bool
all_taken configuration i past = length (waits configuration i past) == 0

-- The first line that an event brings may be an answer, no later one.
abbrev pub first_answer : Configuration → List Entry → ℕ → List LineText → Option Answer
first_answer configuration past i [] = None
first_answer configuration past i (text ∷ texts) =
    answer_to (line_in configuration.lines i) i (outstanding i past) (all_taken configuration i past) text

abbrev pub answer_of : Configuration → List Entry → Event → Option Answer
answer_of configuration past (LinkBytes i piece) = first_answer configuration past i (brought i past piece)
answer_of configuration past (OutOfMemory i piece k) = first_answer configuration past i (take k (brought i past piece))
answer_of configuration past event = None

-- A line that is no answer loses its link. So does any line behind an answer: no query is outstanding there.
abbrev pub lost_by : ℕ → Option Answer → List LineText → Option ℕ
lost_by i answer [] = None
lost_by i None (text ∷ texts) = Some i
lost_by i (Some answer) (text ∷ []) = None
lost_by i (Some answer) (text ∷ other ∷ texts) = Some i

abbrev pub lost_of : Option Answer → List Entry → Event → Option ℕ
lost_of answer past (LinkBytes i piece) = lost_by i answer (brought i past piece)
lost_of answer past (OutOfMemory i piece k) = Some i
lost_of answer past (LinkLost i) = Some i
lost_of answer past event = None

-- the event with its answer and the link that it lost, before queries are put and notices given
abbrev pub came : Configuration → List Entry → Event → Entry
came configuration past event = record {
  event = event;
  answer = answer_of configuration past event;
  lost = lost_of (answer_of configuration past event) past event;
  put = λ i. None;
  notices = [];
}

-- ---- which notices are given

abbrev pub notices_of_answer : Configuration → List Entry → ℕ → Option Answer → List Notice
notices_of_answer configuration past time None = []
notices_of_answer configuration past time (Some answer) =
    answer_notices configuration time answer.link (known answer.link past) answer.asked.query answer.outcome

abbrev pub notices_of_loss : List Entry → Option Answer → Option ℕ → List Notice
notices_of_loss past answer None = []
notices_of_loss past answer (Some i) = loss_notices i (communication_after i answer (communication i past))

-- the NOCOMM notices of a moment, line by line from number i on
abbrev pub silences : Configuration → List Entry → ℕ → ℕ → List Line → List Notice
silences configuration past time i [] = []
silences configuration past time i (line ∷ lines) =
    when (tells_silence configuration time (polled i past) (told_at (is_silence i) past)) (told kinds.Nocomm i)
    ++ silences configuration past time (suc i) lines

abbrev pub notices_of_moment : Configuration → List Entry → ℕ → Event → List Notice
notices_of_moment configuration past time (Moment t) = silences configuration past time 0 configuration.lines
notices_of_moment configuration past time event = []

-- The notices of an event, in order. Once the shutdown has begun, only SHUTDOWN is given, when Final begins.
abbrev pub notices_of : Configuration → List Entry → Entry → List Notice
notices_of configuration past entry =
    (if has_begun configuration past then []
    else notices_of_answer configuration past (clock (entry ∷ past)) entry.answer
    ++ notices_of_loss past entry.answer entry.lost
    ++ notices_of_moment configuration past (clock (entry ∷ past)) entry.event)
    ++ when (has_ended configuration (entry ∷ past) && not (has_ended configuration past)) shutdown_told

-- the query that is put on link i at the end of the newest event, if any
abbrev pub query_put : Configuration → List Entry → ℕ → Option Query
query_put configuration past i =
    next_query configuration (line_in configuration.lines i) (clock past) (phase configuration past)
    (may_ask i past) (last_query i past) (forced i past)

unfoldable pub entry_of : Configuration → List Entry → Event → Entry
entry_of configuration past event =
    let entry : Entry = came configuration past event in
    record entry {
      put = query_put configuration (entry ∷ past);
      notices = notices_of configuration past entry;
    }

-- Each event with what it brought, which depends on the past before it.
abbrev pub trace : Configuration → List Event → List Entry
trace configuration [] = []
trace configuration (event ∷ events) =
    let past : List Entry = trace configuration events in entry_of configuration past event ∷ past

-- ---- notices that wait

-- all notices, the oldest first
abbrev pub notices : List Entry → List Notice
notices [] = []
notices (entry ∷ past) = notices past ++ entry.notices

-- how many notices were taken
abbrev pub taken_notice : Event → ℕ → ℕ
taken_notice NoticeTaken before = before + 1
taken_notice event before = before

abbrev pub notices_taken : List Entry → ℕ
notices_taken [] = 0
notices_taken (entry ∷ past) = taken_notice entry.event (notices_taken past)

-- the notices that wait, the oldest first
abbrev pub notices_waiting : List Entry → List Notice
notices_waiting past = drop (notices_taken past) (notices past)
