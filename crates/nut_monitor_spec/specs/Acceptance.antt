-- Which events a monitor refuses, in the order of the tests, and the histories in which no event was refused.
use Rattle.std.specs.Prelude.{ℕ, ◌≡◌, nat_lt, Bool, true, false, if◌then◌else◌, List, [], ◌∷◌, length, slice_get, Option, Some, None, is_some}
use Rattle.nut_link.specs.Link.{LinkValue, waits}
use Rattle.nut_words.specs.declared.limits.TheConstants.{PIECE_MAX}
use Rattle.nut_monitor_spec.specs.declared.LastAnswer.{LastAnswer}
use Rattle.nut_monitor_spec.specs.declared.MonitorFault.{MonitorFault}
use Rattle.nut_monitor_spec.specs.declared.MonitorFault.TheVariants.{NoSuchLink, WrongLinkState, PieceTooLong, TooMuchTaken, Busy}
use Rattle.nut_monitor_spec.specs.Configuration.{Configuration}
use Rattle.nut_monitor_spec.specs.Event.{Event, Moment, Linked, LinkBytes, LinkLost, LinkTook, OutOfMemory, NoticeTaken}
use Rattle.nut_monitor_spec.specs.Content.{Watch, Content, content}

-- the watch of the line with this number, if there is such a line
abbrev pub watch_at : ℕ → List Watch → Option Watch
watch_at i watches = slice_get watches i

-- whether a notice waits
abbrev pub is_busy : Content → Bool
is_busy s = nat_lt 0 (length s.notices)

abbrev pub busy : Content → Option MonitorFault
busy s = if is_busy s then Some Busy else None

-- What refuses `Linked`: no MONITOR line has this number, or its link is up already.
abbrev pub linked_refusal : Option Watch → Option MonitorFault
linked_refusal None = Some NoSuchLink
linked_refusal (Some w) = if is_some w.link then Some WrongLinkState else None

-- Of a link that is there come pieces of at most PIECE_MAX bytes, and none while a notice waits.
abbrev pub bytes_refusal : Content → List ℕ → Option Watch → Option MonitorFault
bytes_refusal s piece None = Some NoSuchLink
bytes_refusal s piece (Some w) =
    if is_some w.link then (if nat_lt PIECE_MAX (length piece) then Some PieceTooLong else busy s) else Some WrongLinkState

-- What refuses the loss of a link: no line has this number, or its link isn't up.
abbrev pub lost_refusal : Option Watch → Option MonitorFault
lost_refusal None = Some NoSuchLink
lost_refusal (Some w) = if is_some w.link then None else Some WrongLinkState

-- the bytes that wait on a link, none if it isn't up
abbrev pub waits_on : Option LinkValue → List ℕ
waits_on None = []
waits_on (Some v) = waits v.exchange

-- What refuses that the server took n bytes: no line has this number, its link isn't up, or fewer than n bytes wait on
-- it.
abbrev pub took_refusal : ℕ → Option Watch → Option MonitorFault
took_refusal n None = Some NoSuchLink
took_refusal n (Some w) =
    if is_some w.link then (if nat_lt (length (waits_on w.link)) n then Some TooMuchTaken else None) else Some WrongLinkState

-- The fault of the first test that refuses the event. A lack of memory is no such test: see `IsRefusal`. No test
-- refuses `NoticeTaken`: see `IsGiven`.
abbrev pub refusal : Content → Event → Option MonitorFault
refusal s (Moment t) = busy s
refusal s (Linked i) = linked_refusal (watch_at i s.watches)
refusal s (LinkBytes i piece) = bytes_refusal s piece (watch_at i s.watches)
refusal s (LinkLost i) = lost_refusal (watch_at i s.watches)
refusal s (LinkTook i n) = took_refusal n (watch_at i s.watches)
refusal s (OutOfMemory i piece k) = bytes_refusal s piece (watch_at i s.watches)
refusal s NoticeTaken = None

-- `NoticeTaken` happens only if a notice waits.
abbrev pub IsGiven : Content → Event → Type 0
IsGiven s NoticeTaken = is_busy s ≡ true
IsGiven s event = Unit {0}

-- A monitor with this content accepts the event.
abbrev pub Accepts : Content → Event → Type 0
Accepts s event = (refusal s event ≡ None) × IsGiven s event

-- no event of the history was refused
abbrev pub IsAccepted : Configuration → List Event → Type 0
IsAccepted configuration [] = Unit {0}
IsAccepted configuration (event ∷ events) = IsAccepted configuration events × Accepts (content configuration events) event

-- a monitor that was made with this configuration and accepted these events has this content
abbrev pub Tells : Configuration → List Event → Content → Type 0
Tells configuration events s = IsAccepted configuration events × (s ≡ content configuration events)

-- whether the link of this watch is up; false if there is no such line
abbrev pub is_linked : Option Watch → Bool
is_linked None = false
is_linked (Some w) = is_some w.link

-- the bytes that wait on the link of this watch; none if there is no such line
abbrev pub waiting_on : Option Watch → List ℕ
waiting_on None = []
waiting_on (Some w) = waits_on w.link

-- the last answer since the link of this watch was made; none if there is no such line
abbrev pub answer_on : Option Watch → Option LastAnswer
answer_on None = None
answer_on (Some w) = w.answer
