-- What holds of every history, in most laws of every history of accepted events. Each law is the contract of a function
-- of the crate.
use Rattle.std.specs.Prelude.{◌≡◌, ◌==◌, ℕ, ◌<◌, ◌≤◌, true, false, List, [], ◌∷◌, ◌++◌, length, map, ◌⊎◌, Option, None, Some}
use Rattle.nut_conf.specs.declared.limits.TheConstants.{MONITORS_MAX}
use Rattle.nut_words.specs.Lines.{lines_after, rest}
use Rattle.nut_link.specs.Asking.{is_writable}
use Rattle.nut_link.specs.Bounds.{IsBounded}
use Rattle.nut_link.specs.Link.{LinkValue}
use Rattle.nut_monitor_spec.specs.declared.Query.{Query}
use Rattle.nut_monitor_spec.specs.declared.Query.TheVariants.{NumLogins}
use Rattle.nut_monitor_spec.specs.Configuration.{Line, Configuration, line_in}
use Rattle.nut_monitor_spec.specs.Event.{Event, Linked, LinkBytes, LinkLost, LinkTook, OutOfMemory}
use Rattle.nut_monitor_spec.specs.Query.{request}
use Rattle.nut_monitor_spec.specs.Trace.{Asked, Entry, linked, input, queries, answers, last_answer, outstanding, due, sent, waits, forced, known, query_put, trace, notices}
use Rattle.nut_monitor_spec.specs.Content.{Watch, content}
use Rattle.nut_monitor_spec.specs.Handing.{notices_handed}
use Rattle.nut_monitor_spec.specs.Acceptance.{IsAccepted, watch_at, is_linked, waiting_on, answer_on}
use Rattle.nut_monitor_spec.specs.declared.limits.TheConstants.{NOTICES_MAX}

-- these answers belong to all queries, or to all but the newest
abbrev pub IsInTurn : List Asked → List Asked → Type 0
IsInTurn queries answered = (queries ≡ answered) ⊎ ((newest : Asked) × (queries ≡ newest ∷ answered))

-- A link is up in the content exactly if it was made and not lost since: that of a MONITOR line after every history, and
-- that of any number after every history of accepted events. What waits on it is what the server hasn't taken of the
-- queries put on it since it was made, joined; nothing if the link isn't up.
pub record LinksAreTold : Type 0 where
  pub there :
      (configuration : Configuration) (events : List Event) (i : ℕ) → (i < length configuration.lines) ⊎ IsAccepted configuration events →
      is_linked (watch_at i (content configuration events).watches) ≡ linked i (trace configuration events)
  pub left :
      (configuration : Configuration) (events : List Event) (i : ℕ) → IsAccepted configuration events →
      waiting_on (watch_at i (content configuration events).watches) ≡ waits configuration i (trace configuration events)

-- The last answer that the content has of a MONITOR line is the newest on its link since it was made.
abbrev pub AnswersAreTold : Type 0
AnswersAreTold =
    (configuration : Configuration) (events : List Event) (i : ℕ) → i < length configuration.lines →
    answer_on (watch_at i (content configuration events).watches) ≡ last_answer i (trace configuration events)

-- On a link that is up, the bytes that the server took, followed by those that wait, are the queries put on it since it
-- was made, joined.
abbrev pub SentAndWaitingIsDue : Type 0
SentAndWaitingIsDue =
    (configuration : Configuration) (events : List Event) (i : ℕ) → linked i (trace configuration events) ≡ true →
    sent configuration i (trace configuration events) ++ waits configuration i (trace configuration events)
    ≡ due configuration i (trace configuration events)

-- Once the shutdown has begun, the moment of its beginning never changes; nor does that of Final once that has begun.
pub record ShutdownStays : Type 0 where
  pub begun :
      (configuration : Configuration) (events : List Event) (event : Event) (m : ℕ) →
      (content configuration events).begun ≡ Some m → (content configuration (event ∷ events)).begun ≡ Some m
  pub ended :
      (configuration : Configuration) (events : List Event) (event : Event) (m : ℕ) →
      (content configuration events).ended ≡ Some m → (content configuration (event ∷ events)).ended ≡ Some m

-- A piece x that completes no line, and then a piece y, lead to the same content as the piece x ++ y.
abbrev pub CutsDoNotMatter : Type 0
CutsDoNotMatter =
    (configuration : Configuration) (events : List Event) (i : ℕ) (x y : List ℕ) → IsAccepted configuration (LinkBytes i x ∷ events) →
    lines_after (rest (input i (trace configuration events))) x ≡ [] →
    content configuration (LinkBytes i (x ++ y) ∷ events) ≡ content configuration (LinkBytes i y ∷ LinkBytes i x ∷ events)

-- No more than NOTICES_MAX notices wait, where there are at most MONITORS_MAX MONITOR lines.
abbrev pub NoticesAreFew : Type 0
NoticesAreFew =
    (configuration : Configuration) (events : List Event) → IsAccepted configuration events → length configuration.lines ≤ MONITORS_MAX →
    length (content configuration events).notices ≤ NOTICES_MAX

-- The notices handed out, followed by those that wait, are all notices, in their order.
abbrev pub NoticesComeInOrder : Type 0
NoticesComeInOrder =
    (configuration : Configuration) (events : List Event) → IsAccepted configuration events →
    notices_handed (trace configuration events) ++ (content configuration events).notices ≡ notices (trace configuration events)

-- A query is put only on a link that is up and has no outstanding query.
abbrev pub QueriesComeAlone : Type 0
QueriesComeAlone =
    (configuration : Configuration) (past : List Entry) (i : ℕ) (query : Query) → query_put configuration past i ≡ Some query →
    (linked i past ≡ true) × (outstanding i past ≡ None)

-- GET NUMLOGINS is put only once an FSD for the UPS was answered OK, and only if this machine is its primary.
abbrev pub LoginsFollowFsd : Type 0
LoginsFollowFsd =
    (configuration : Configuration) (past : List Entry) (i : ℕ) → query_put configuration past i ≡ Some NumLogins →
    (forced i past ≡ true) × ((line_in configuration.lines i).primary ≡ true)

-- The answers on a link that is up belong to its queries in turn: each query but the newest has its answer, and the
-- newest may have none.
abbrev pub AnswersComeInTurn : Type 0
AnswersComeInTurn =
    (configuration : Configuration) (events : List Event) (i : ℕ) → IsAccepted configuration events →
    linked i (trace configuration events) ≡ true →
    IsInTurn (queries i (trace configuration events)) (map (λ a. a.asked) (answers i (trace configuration events)))

-- the number of the link that an event concerns
abbrev pub link_of : Event → Option ℕ
link_of (Linked i) = Some i
link_of (LinkBytes i piece) = Some i
link_of (LinkLost i) = Some i
link_of (LinkTook i n) = Some i
link_of (OutOfMemory i piece k) = Some i
link_of event = None

-- An accepted event of a link changes nothing that is known of another line's UPS.
abbrev pub OthersStay : Type 0
OthersStay =
    (configuration : Configuration) (events : List Event) (event : Event) (i j : ℕ) → IsAccepted configuration (event ∷ events) →
    link_of event ≡ Some i → (i == j) ≡ false → known j (trace configuration (event ∷ events)) ≡ known j (trace configuration events)

-- the queries of a line can be written: each has at most LINE_MAX bytes before its line feed, all of them 0x20 to 0x7E
abbrev pub IsWritable : Line → Type 0
IsWritable line = (query : Query) → is_writable (request line query) ≡ true

-- If the queries of a MONITOR line are writable, its link keeps no more than one query of at most QUERY_MAX bytes, and
-- LINE_MAX bytes of an unfinished line.
abbrev pub LinksAreBounded : Type 0
LinksAreBounded =
    (configuration : Configuration) (events : List Event) (i : ℕ) (w : Watch) (v : LinkValue) → IsAccepted configuration events →
    IsWritable (line_in configuration.lines i) → watch_at i (content configuration events).watches ≡ Some w → w.link ≡ Some v → IsBounded v
