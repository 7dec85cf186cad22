-- The monitor as a machine over its content: the step that an accepted event makes. The machine forgets the past. The
-- law `machine_keeps_content` says that it keeps the content of every history.
use Rattle.std.specs.Prelude.{ℕ, zero, suc, ◌≡◌, ◌+◌, max, nat_lt, Bool, true, false, not, ◌&&◌, ◌||◌, if◌then◌else◌, List, [], ◌∷◌, ◌++◌, drop, take, Option, Some, None, is_some, is_none}
use Rattle.nut_words.specs.Lines.{lines_after}
use Rattle.nut_conf.specs.declared.notice.Notice.TheVariants as kinds
use Rattle.nut_proto.specs.declared.request.Request.{Request}
use Rattle.nut_link.specs.Exchange.{Exchange}
use Rattle.nut_link.specs.Exchange as stages
use Rattle.nut_link.specs.declared.outcome.Outcome.{Outcome}
use Rattle.nut_link.specs.Asking.{query_of}
use Rattle.nut_link.specs.Link.{LinkValue, fresh, fed, lines_heard, is_idle, outcome_of, taken, taken_out, with_exchange}
use Rattle.nut_monitor_spec.specs.declared.Communication.TheVariants.{Bad}
use Rattle.nut_monitor_spec.specs.declared.Known.{Known}
use Rattle.nut_monitor_spec.specs.declared.LastAnswer.{LastAnswer}
use Rattle.nut_monitor_spec.specs.declared.LastQuery.{LastQuery}
use Rattle.nut_monitor_spec.specs.declared.Notice.{Notice}
use Rattle.nut_monitor_spec.specs.declared.Phase.{Phase}
use Rattle.nut_monitor_spec.specs.declared.Query.{Query}
use Rattle.nut_monitor_spec.specs.declared.StatusFlags.{StatusFlags}
use Rattle.nut_monitor_spec.specs.Configuration.{Line, Configuration}
use Rattle.nut_monitor_spec.specs.Event.{Event, Moment, Linked, LinkBytes, LinkLost, LinkTook, OutOfMemory, NoticeTaken}
use Rattle.nut_monitor_spec.specs.Query.{request, status_in, is_forced, logins_in, flags_of}
use Rattle.nut_monitor_spec.specs.Decision.{is_critical, is_alone, is_calm, communication_then, told, shutdown_told, when, tells_replace, answer_notices, loss_notices, tells_silence, is_over_by, next_query}
use Rattle.nut_monitor_spec.specs.Content.{Watch, Content, content, phase_of}
use Rattle.nut_monitor_spec.specs.Acceptance.{IsAccepted, watch_at}

-- the watches with the one of this number changed
abbrev pub update : ℕ → (Watch → Watch) → List Watch → List Watch
update i change [] = []
update zero change (w ∷ watches) = change w ∷ watches
update (suc i) change (w ∷ watches) = w ∷ update i change watches

-- ---- an answer

-- the new value if there is one, else the old
abbrev pub newer : {A : Type 0} → Option A → Option A → Option A
newer (Some a) before = Some a
newer None before = before

abbrev pub flags_then : Option (List (List ℕ)) → Option StatusFlags → Option StatusFlags
flags_then None before = before
flags_then (Some words) before = Some (flags_of words)

abbrev pub polled_then : Option (List (List ℕ)) → ℕ → ℕ → ℕ
polled_then None clock before = before
polled_then (Some words) clock before = clock

abbrev pub calm_then : Option (List (List ℕ)) → ℕ → Option StatusFlags → ℕ → ℕ
calm_then None clock flags before = before
calm_then (Some words) clock flags before = if is_none flags || is_calm words then clock else before

abbrev pub replace_then : Option (List (List ℕ)) → Configuration → ℕ → Option StatusFlags → Option ℕ → Option ℕ
replace_then None configuration clock flags before = before
replace_then (Some words) configuration clock flags before =
    if tells_replace configuration clock before flags (flags_of words) then Some clock else before

-- What is known of a UPS after an answer. `replace_told` doesn't move once the shutdown has begun: no notice is given
-- then.
abbrev pub known_answered : Configuration → ℕ → Bool → Query → Outcome → Known → Known
known_answered configuration clock watching query outcome known = record {
  flags = flags_then (status_in query outcome) known.flags;
  polled = polled_then (status_in query outcome) clock known.polled;
  calm = calm_then (status_in query outcome) clock known.flags known.calm;
  communication = communication_then query outcome known.communication;
  replace_told =
      if watching then replace_then (status_in query outcome) configuration clock known.flags known.replace_told else known.replace_told;
  silence_told = known.silence_told;
  forced = is_forced query outcome || known.forced;
  logins = newer (logins_in query outcome) known.logins;
}

-- what is known after an answer to the last query; unchanged if either is missing
abbrev pub known_after : Configuration → ℕ → Bool → Option LastQuery → Option Outcome → Known → Known
known_after configuration clock watching (Some last) (Some outcome) known =
    known_answered configuration clock watching last.query outcome known
known_after configuration clock watching last outcome known = known

-- the last answer after this outcome of the last query; unchanged if either is missing
abbrev pub answer_after : Option LastQuery → Option Outcome → Option LastAnswer → Option LastAnswer
answer_after (Some last) (Some outcome) before = Some (record { asked = last; outcome = outcome })
answer_after last outcome before = before

-- the notices of line i that this answer gives
abbrev pub answer_told : Configuration → ℕ → ℕ → Option LastQuery → Option Outcome → Known → List Notice
answer_told configuration clock i (Some last) (Some outcome) known =
    answer_notices configuration clock i known last.query outcome
answer_told configuration clock i last outcome known = []

-- ---- a link

-- a link is made: no query was put on it yet
abbrev pub made : Watch → Watch
made w = record { link = Some fresh; last = None; answer = None; known = w.known }

-- a link is lost: its queue is gone, and communication is bad
abbrev pub lost : Watch → Watch
lost w = record w { link = None; known = record w.known { communication = Bad } }

-- the server took n bytes on a link
abbrev pub link_took : ℕ → Option LinkValue → Option LinkValue
link_took n None = None
link_took n (Some v) = Some (with_exchange (taken n v.exchange) v)

abbrev pub took : ℕ → Watch → Watch
took n w = record w { link = link_took n w.link }

-- a watch after the answer on its link, if one is complete
abbrev pub watch_answered : Configuration → ℕ → Bool → Option Outcome → Watch → Watch
watch_answered configuration clock watching outcome w =
    record w {
      answer = answer_after w.last outcome w.answer;
      known = known_after configuration clock watching w.last outcome w.known;
    }

-- a watch whose link is now this one, without the answer that it had
abbrev pub goes_on : LinkValue → Watch → Watch
goes_on v w = record w { link = Some (with_exchange (taken_out v.exchange) v) }

-- a watch whose link is now this one; the link is lost if its exchange failed
abbrev pub link_after : LinkValue → Watch → Watch
link_after v w = if is_some v.exchange.fault then lost w else goes_on v w

-- a watch after its link heard lines and became this one
abbrev pub watch_heard : Configuration → ℕ → Bool → LinkValue → Watch → Watch
watch_heard configuration clock watching v w =
    link_after v (watch_answered configuration clock watching (outcome_of v.exchange) w)

-- the notices of line i if its link is lost
abbrev pub loss_told : ℕ → Watch → List Notice
loss_told i w = loss_notices i w.known.communication

-- the notices of line i for the lines that its link heard: first those of the answer, then that of the loss
abbrev pub told_heard : Configuration → ℕ → ℕ → Bool → LinkValue → Watch → List Notice
told_heard configuration clock i watching v w =
    answer_told configuration clock i w.last (outcome_of v.exchange) w.known
    ++ (if is_some v.exchange.fault
    then loss_told i (watch_answered configuration clock watching (outcome_of v.exchange) w)
    else [])

-- the exchange of a link that heard only the first k of the lines that a piece completes
abbrev pub heard_before : ℕ → List ℕ → LinkValue → Exchange
heard_before k piece v = lines_heard (take k (lines_after v.rest piece)) v.exchange

-- a watch whose link was lost by a lack of memory, and the notices of that
abbrev pub watch_out : Configuration → ℕ → Bool → Exchange → Watch → Watch
watch_out configuration clock watching e w = lost (watch_answered configuration clock watching (outcome_of e) w)

abbrev pub told_out : Configuration → ℕ → ℕ → Bool → Exchange → Watch → List Notice
told_out configuration clock i watching e w =
    answer_told configuration clock i w.last (outcome_of e) w.known
    ++ loss_told i (watch_answered configuration clock watching (outcome_of e) w)

-- ---- the content

-- the shutdown hasn't begun
abbrev pub is_watching : Content → Bool
is_watching s = is_none s.begun

-- the notices that wait once these are given; none are given once the shutdown has begun
abbrev pub given : List Notice → Content → List Notice
given notices s = if is_watching s then s.notices ++ notices else s.notices

-- the content with watch i changed and these notices given
abbrev pub with_watch : ℕ → (Watch → Watch) → List Notice → Content → Content
with_watch i change notices s = record s { notices = given notices s; watches = update i change s.watches }

-- the content after a piece on a link in this state
abbrev pub piece_heard : ℕ → List ℕ → Watch → Option LinkValue → Content → Content
piece_heard i piece w None s = s
piece_heard i piece w (Some v) s =
    with_watch i (watch_heard s.configuration s.clock (is_watching s) (fed piece v))
    (told_heard s.configuration s.clock i (is_watching s) (fed piece v) w) s

abbrev pub bytes_heard : ℕ → List ℕ → Option Watch → Content → Content
bytes_heard i piece None s = s
bytes_heard i piece (Some w) s = piece_heard i piece w w.link s

-- the content after a piece at which memory ran out behind k lines
abbrev pub piece_out : ℕ → List ℕ → ℕ → Watch → Option LinkValue → Content → Content
piece_out i piece k w None s = s
piece_out i piece k w (Some v) s =
    with_watch i (watch_out s.configuration s.clock (is_watching s) (heard_before k piece v))
    (told_out s.configuration s.clock i (is_watching s) (heard_before k piece v) w) s

abbrev pub memory_out : ℕ → List ℕ → ℕ → Option Watch → Content → Content
memory_out i piece k None s = s
memory_out i piece k (Some w) s = piece_out i piece k w w.link s

-- the content after the loss of link i
abbrev pub link_lost : ℕ → Option Watch → Content → Content
link_lost i None s = s
link_lost i (Some w) s = with_watch i lost (loss_told i w) s

-- the content after link i was made
abbrev pub link_made : ℕ → Content → Content
link_made i s = record s { watches = update i made s.watches }

-- ---- a moment

-- whether the moment gives NOCOMM for the UPS of a watch
abbrev pub is_silent : Configuration → ℕ → Watch → Bool
is_silent configuration clock w = tells_silence configuration clock w.known.polled w.known.silence_told

abbrev pub silent : Configuration → ℕ → Watch → Watch
silent configuration clock w =
    if is_silent configuration clock w
    then record w { known = record w.known { silence_told = Some clock } }
    else w

abbrev pub all_silent : Configuration → ℕ → List Watch → List Watch
all_silent configuration clock [] = []
all_silent configuration clock (w ∷ watches) = silent configuration clock w ∷ all_silent configuration clock watches

-- the NOCOMM notices of a moment, line by line from number i on
abbrev pub silences_told : Configuration → ℕ → ℕ → List Watch → List Notice
silences_told configuration clock i [] = []
silences_told configuration clock i (w ∷ watches) =
    when (is_silent configuration clock w) (told kinds.Nocomm i) ++ silences_told configuration clock (suc i) watches

-- the content after a moment, once the clock shows it
abbrev pub silences_heard : Content → Content
silences_heard s =
    if is_watching s
    then record s {
      notices = s.notices ++ silences_told s.configuration s.clock 0 s.watches;
      watches = all_silent s.configuration s.clock s.watches;
    }
    else s

abbrev pub clock_set : ℕ → Content → Content
clock_set t s = record s { clock = max s.clock t }

-- ---- the end of an event

-- the sum of the power values of the lines whose UPS isn't critical
abbrev pub supply_of : Configuration → ℕ → List Line → List Watch → ℕ
supply_of configuration clock [] watches = 0
supply_of configuration clock (line ∷ lines) [] = 0
supply_of configuration clock (line ∷ lines) (w ∷ watches) =
    (if not (is_critical configuration line clock w.known.calm w.known.polled w.known.flags) then line.power else 0)
    + supply_of configuration clock lines watches

-- The shutdown begins if this sum is less than MINSUPPLIES.
abbrev pub begins : Content → Bool
begins s = is_none s.begun && nat_lt (supply_of s.configuration s.clock s.configuration.lines s.watches) s.configuration.min_supplies

abbrev pub shutdown_judged : Content → Content
shutdown_judged s = if begins s then record s { begun = Some s.clock } else s

-- nobody else is logged in to any UPS of which this machine is the primary
abbrev pub all_alone : List Line → List Watch → Bool
all_alone [] watches = true
all_alone (line ∷ lines) [] = true
all_alone (line ∷ lines) (w ∷ watches) = (not line.primary || is_alone w.known.logins) && all_alone lines watches

-- Final begins if Forcing is over.
abbrev pub ends : Content → Bool
ends s = is_none s.ended && is_over_by s.configuration s.clock (all_alone s.configuration.lines s.watches) s.begun

abbrev pub phase_moved : Content → Content
phase_moved s =
    if ends s then record s { ended = Some s.clock; notices = s.notices ++ shutdown_told ∷ [] } else s

-- whether a query may be put on a link: it is up, and no query on it is outstanding
abbrev pub may_put : Option LinkValue → Bool
may_put None = false
may_put (Some v) = is_idle v.exchange.stage

-- a link after this request was put on it
abbrev pub link_asked : Request → Option LinkValue → Option LinkValue
link_asked asked None = None
link_asked asked (Some v) = Some (with_exchange (record v.exchange { stage = stages.Asked (query_of asked) }) v)

abbrev pub put : Line → ℕ → Option Query → Watch → Watch
put line clock None w = w
put line clock (Some query) w = record w {
  link = link_asked (request line query) w.link;
  last = Some (record { query = query; moment = clock });
}

-- a watch after its next query was put, if there is one
abbrev pub asked_next : Configuration → ℕ → Phase → Line → Watch → Watch
asked_next configuration clock phase line w =
    put line clock (next_query configuration line clock phase (may_put w.link) w.last w.known.forced) w

abbrev pub all_asked : Configuration → ℕ → Phase → List Line → List Watch → List Watch
all_asked configuration clock phase [] watches = watches
all_asked configuration clock phase (line ∷ lines) [] = []
all_asked configuration clock phase (line ∷ lines) (w ∷ watches) =
    asked_next configuration clock phase line w ∷ all_asked configuration clock phase lines watches

abbrev pub queries_put : Content → Content
queries_put s = record s { watches = all_asked s.configuration s.clock (phase_of s) s.configuration.lines s.watches }

-- The end of an event: the shutdown begins if power is short, Final begins if Forcing is over, and the next queries are
-- put.
abbrev pub settled : Content → Content
settled s = queries_put (phase_moved (shutdown_judged s))

-- ---- the machine

-- The content after an accepted event. `LinkTook` and `NoticeTaken` move no phase and put no query.
abbrev pub advance : Content → Event → Content
advance s (Moment t) = settled (silences_heard (clock_set t s))
advance s (Linked i) = settled (link_made i s)
advance s (LinkBytes i piece) = settled (bytes_heard i piece (watch_at i s.watches) s)
advance s (LinkLost i) = settled (link_lost i (watch_at i s.watches) s)
advance s (LinkTook i n) = record s { watches = update i (took n) s.watches }
advance s (OutOfMemory i piece k) = settled (memory_out i piece k (watch_at i s.watches) s)
advance s NoticeTaken = record s { notices = drop 1 s.notices }

-- The machine keeps the content of every history of accepted events: a step needs the content and not the past.
abbrev pub KeepsContent : Type 0
KeepsContent =
    (configuration : Configuration) (events : List Event) (event : Event) → IsAccepted configuration (event ∷ events) →
    content configuration (event ∷ events) ≡ advance (content configuration events) event
