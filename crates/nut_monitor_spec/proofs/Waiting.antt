-- How many notices wait.
use Rattle.std.proofs.Common.{◌≡◌, ℕ, zero, suc, ◌+◌, ◌≤◌, Bool, true, false, not, List, [], ◌∷◌, ◌++◌, length, refl, sym, ◌∙◌, ap, subst, arith, Option, Some, None, is_none, if◌then◌else◌, length-append, length-drop}
use Rattle.std.specs.Prelude.{nat_lt, slice_get}
use Rattle.std.proofs.lemmas.Bool.Decides.{leb_tells}
use Rattle.nut_conf.specs.declared.notice.Notice.TheVariants as kinds
use Rattle.nut_link.specs.Exchange.{Exchange}
use Rattle.nut_link.specs.declared.outcome.Outcome.{Outcome}
use Rattle.nut_link.specs.Link.{LinkValue, fed}
use Rattle.nut_conf.specs.declared.limits.TheConstants.{MONITORS_MAX}
use Rattle.nut_monitor_spec.specs.declared.Communication.{Communication}
use Rattle.nut_monitor_spec.specs.declared.Known.{Known}
use Rattle.nut_monitor_spec.specs.declared.LastQuery.{LastQuery}
use Rattle.nut_monitor_spec.specs.declared.MonitorFault.{MonitorFault}
use Rattle.nut_monitor_spec.specs.declared.MonitorFault.TheVariants.{Busy}
use Rattle.nut_monitor_spec.specs.declared.Notice.{Notice}
use Rattle.nut_monitor_spec.specs.declared.Phase.{Phase}
use Rattle.nut_monitor_spec.specs.declared.Query.{Query}
use Rattle.nut_monitor_spec.specs.declared.StatusFlags.{StatusFlags}
use Rattle.nut_monitor_spec.specs.Configuration.{Line, Configuration}
use Rattle.nut_monitor_spec.specs.Event.{Event, Moment, Linked, LinkBytes, LinkLost, LinkTook, OutOfMemory, NoticeTaken}
use Rattle.nut_monitor_spec.specs.Query.{flags_of}
use Rattle.nut_monitor_spec.specs.Decision.{is_bad, told, shutdown_told, when, status_notices, status_notices_in, loss_notices, next_query}
use Rattle.nut_monitor_spec.specs.Trace.{trace}
use Rattle.nut_monitor_spec.specs.Content.{Watch, Content, watch, for_each_line, content}
use Rattle.nut_monitor_spec.specs.Acceptance.{IsAccepted, refusal, bytes_refusal, busy, watch_at}
use Rattle.nut_monitor_spec.specs.machine.Machine.{update, answer_told, lost, made, took, told_heard, told_out, watch_heard, with_watch, bytes_heard, memory_out, link_lost, is_silent, all_silent, silences_told, silences_heard, clock_set, put, all_asked, settled, advance, may_put, piece_heard, piece_out, link_made}
use Rattle.nut_monitor_spec.specs.laws.Laws.{NoticesAreFew}
use Rattle.nut_monitor_spec.proofs.Kept.{keeps-content}

-- ---- how many are told

when-one : (b : Bool) (notice : Notice) → length (when b notice) ≤ 1
when-one b notice = grind arith

when-more : (n : ℕ) (front : List Notice) (b : Bool) (notice : Notice) → length front ≤ n → length (front ++ when b notice) ≤ n + 1
when-more n front b notice few = omega (arith, length-append front (when b notice), when-one b notice, few)

status-six : (configuration : Configuration) (time i : ℕ) (known : Known) (flags : StatusFlags) → length (status_notices configuration time i known flags) ≤ 6
status-six configuration time i known flags = grind (arith, when-more)

status-few : (configuration : Configuration) (time i : ℕ) (known : Known) (words : Option (List (List ℕ))) → length (status_notices_in configuration time i known words) ≤ 6
status-few configuration time i known None = omega arith
status-few configuration time i known (Some words) = status-six configuration time i known (flags_of words)

answer-few : (configuration : Configuration) (time i : ℕ) (last : Option LastQuery) (outcome : Option Outcome) (known : Known) →
    length (answer_told configuration time i last outcome known) ≤ 7
answer-few configuration time i last outcome known = grind (arith, when-more, status-few)

loss-if : (b : Bool) (i : ℕ) (communication : Communication) → length (let ns : List Notice = if b then loss_notices i communication else [] in ns) ≤ 1
loss-if b i communication = grind arith

heard-few : (configuration : Configuration) (time i : ℕ) (watching : Bool) (v : LinkValue) (w : Watch) → length (told_heard configuration time i watching v w) ≤ 8
heard-few configuration time i watching v w = grind (arith, length-append, answer-few, loss-if)

out-few : (configuration : Configuration) (time i : ℕ) (watching : Bool) (e : Exchange) (w : Watch) → length (told_out configuration time i watching e w) ≤ 8
out-few configuration time i watching e w = grind (arith, length-append, answer-few)

silences-few : (configuration : Configuration) (time i : ℕ) (watches : List Watch) → length (silences_told configuration time i watches) ≤ length watches
silences-few configuration time i [] = omega arith
silences-few configuration time i (w ∷ watches) =
    let b = is_silent configuration time w in
    omega (arith, length-append (when b (told kinds.Nocomm i)) (silences_told configuration time (suc i) watches), when-one b (told kinds.Nocomm i), silences-few configuration time (suc i) watches)

-- ---- how many more a loss of links may tell

abbrev fresh : Watch → ℕ
fresh w = if is_bad w.known.communication then 0 else 1

abbrev all_fresh : List Watch → ℕ
all_fresh [] = 0
all_fresh (w ∷ watches) = fresh w + all_fresh watches

fresh-one : (b : Bool) → (if b then 0 else 1) ≤ 1
fresh-one b = grind arith

fresh-few : (watches : List Watch) → all_fresh watches ≤ length watches
fresh-few [] = omega arith
fresh-few (w ∷ watches) = omega (arith, fresh-one (is_bad w.known.communication), fresh-few watches)

fresh-update : (i : ℕ) (change : Watch → Watch) (watches : List Watch) → ((w : Watch) → (change w).known.communication ≡ w.known.communication) → all_fresh (update i change watches) ≡ all_fresh watches
fresh-update i change [] same = refl
fresh-update zero change (w ∷ watches) same = ap (λ c. (if is_bad c then 0 else 1) + all_fresh watches) (same w)
fresh-update (suc i) change (w ∷ watches) same = ap (λ n. fresh w + n) (fresh-update i change watches same)

fresh-lost : (i : ℕ) (watches : List Watch) (w : Watch) → slice_get watches i ≡ Some w → all_fresh (update i lost watches) + fresh w ≡ all_fresh watches
fresh-lost i [] w is = cc
fresh-lost zero (x ∷ watches) w is = let e : x ≡ w = cc in ap (λ y. 0 + all_fresh watches + fresh y) (sym e) ∙ omega arith
fresh-lost (suc i) (x ∷ watches) w is = omega (arith, fresh-lost i watches w is)

pub length-update : (i : ℕ) (change : Watch → Watch) (watches : List Watch) → length (update i change watches) ≡ length watches
length-update i change [] = refl
length-update zero change (w ∷ watches) = refl
length-update (suc i) change (w ∷ watches) = ap suc (length-update i change watches)

length-silent : (configuration : Configuration) (time : ℕ) (watches : List Watch) → length (all_silent configuration time watches) ≡ length watches
length-silent configuration time [] = refl
length-silent configuration time (w ∷ watches) = ap suc (length-silent configuration time watches)

length-each : {A : Type 0} (f : ℕ → A) (lines : List Line) → length (for_each_line f lines) ≡ length lines
length-each f [] = refl
length-each f (line ∷ lines) = ap suc (length-each (λ i. f (suc i)) lines)

put-fresh : (line : Line) (time : ℕ) (query : Option Query) (w : Watch) → fresh (put line time query w) ≡ fresh w
put-fresh line time query w = grind arith

asked-fresh : (configuration : Configuration) (time : ℕ) (phase : Phase) (lines : List Line) (watches : List Watch) → all_fresh (all_asked configuration time phase lines watches) ≡ all_fresh watches
asked-fresh configuration time phase (line ∷ lines) (w ∷ watches) =
    ap (λ n. n + all_fresh (all_asked configuration time phase lines watches)) (put-fresh line time (next_query configuration line time phase (may_put w.link) w.last w.known.forced) w)
    ∙ ap (λ n. fresh w + n) (asked-fresh configuration time phase lines watches)
asked-fresh configuration time phase _ _ = refl

-- ---- how many may yet wait

abbrev left : Option ℕ → ℕ
left None = 1
left (Some m) = 0

abbrev room : Content → ℕ
room s = length s.notices + (all_fresh s.watches + left s.ended)

ends-left : (s : Content) (b : Bool) → (b ≡ true → s.ended ≡ None) →
    room (let r : Content = if b then record s { ended = Some s.clock; notices = s.notices ++ shutdown_told ∷ [] } else s in r) ≤ room s
ends-left s b none = grind (arith, length-append)

settled-room : (s : Content) → room (settled s) ≤ room s
settled-room s = grind (arith, ends-left, asked-fresh)

-- ---- each event

given-few : (b : Bool) (before more : List Notice) → length (if b then before ++ more else before) ≤ length before + length more
given-few b before more = grind (arith, length-append)

nothing-below : (n : ℕ) → nat_lt 0 n ≡ false → n ≡ 0
nothing-below n is = grind (arith, leb_tells)

busy-none : (b : Bool) → (let o : Option MonitorFault = if b then Some Busy else None in o) ≡ None → b ≡ false
busy-none b is = grind arith

not-busy : (s : Content) → busy s ≡ None → length s.notices ≡ 0
not-busy s is = nothing-below (length s.notices) (busy-none (nat_lt 0 (length s.notices)) is)

with-watch-room : (i : ℕ) (change : Watch → Watch) (more : List Notice) (s : Content) → length more ≤ 8 → length s.notices ≡ 0 → length s.watches ≤ MONITORS_MAX → room (with_watch i change more s) ≤ 73
with-watch-room i change more s few none lines = grind (arith, given-few, fresh-few, length-update)

piece-room : (i : ℕ) (piece : List ℕ) (w : Watch) (l : Option LinkValue) (s : Content) → length s.notices ≡ 0 → length s.watches ≤ MONITORS_MAX → room s ≤ 73 → room (piece_heard i piece w l s) ≤ 73
piece-room i piece w None s none lines before = before
piece-room i piece w (Some v) s none lines before =
    with-watch-room i (watch_heard s.configuration s.clock (is_none s.begun) (fed piece v)) (told_heard s.configuration s.clock i (is_none s.begun) (fed piece v) w) s
    (heard-few s.configuration s.clock i (is_none s.begun) (fed piece v) w) none lines

bytes-room : (i : ℕ) (piece : List ℕ) (o : Option Watch) (s : Content) → bytes_refusal s piece o ≡ None → length s.watches ≤ MONITORS_MAX → room s ≤ 73 → room (bytes_heard i piece o s) ≤ 73
bytes-room i piece o s accepted lines before = grind (arith, piece-room, not-busy)

out-room : (i : ℕ) (piece : List ℕ) (k : ℕ) (w : Watch) (l : Option LinkValue) (s : Content) → length s.notices ≡ 0 → length s.watches ≤ MONITORS_MAX → room s ≤ 73 → room (piece_out i piece k w l s) ≤ 73
out-room i piece k w l s none lines before = grind (arith, with-watch-room, out-few)

memory-room : (i : ℕ) (piece : List ℕ) (k : ℕ) (o : Option Watch) (s : Content) → bytes_refusal s piece o ≡ None → length s.watches ≤ MONITORS_MAX → room s ≤ 73 → room (memory_out i piece k o s) ≤ 73
memory-room i piece k o s accepted lines before = grind (arith, out-room, not-busy)

when-fresh : (b : Bool) (notice : Notice) → length (when (not b) notice) ≡ (if b then 0 else 1)
when-fresh b notice = grind arith

lost-room : (i : ℕ) (o : Option Watch) (s : Content) → slice_get s.watches i ≡ o → room (link_lost i o s) ≤ room s
lost-room i o s is = grind (arith, given-few, when-fresh, fresh-lost)

silences-room : (b : Bool) (s : Content) → length s.notices ≡ 0 → length s.watches ≤ MONITORS_MAX →
    room (let r : Content = if b then record s {
      notices = s.notices ++ silences_told s.configuration s.clock 0 s.watches;
      watches = all_silent s.configuration s.clock s.watches;
    } else s in r) ≤ 73
silences-room b s none lines = grind (arith, length-append, silences-few, fresh-few, length-silent)

advance-room : (s : Content) (event : Event) → length s.watches ≤ MONITORS_MAX → refusal s event ≡ None → room s ≤ 73 → room (advance s event) ≤ 73
advance-room s (Moment t) lines accepted before =
    let r = silences_heard (clock_set t s) in
    omega (arith, settled-room r, silences-room (is_none s.begun) (clock_set t s) (not-busy s accepted) lines)
advance-room s (Linked i) lines accepted before =
    omega (arith, settled-room (link_made i s), fresh-update i made s.watches (λ w. refl), before)
advance-room s (LinkBytes i piece) lines accepted before =
    omega (arith, settled-room (bytes_heard i piece (watch_at i s.watches) s), bytes-room i piece (watch_at i s.watches) s accepted lines before)
advance-room s (LinkLost i) lines accepted before =
    omega (arith, settled-room (link_lost i (watch_at i s.watches) s), lost-room i (watch_at i s.watches) s refl, before)
advance-room s (LinkTook i n) lines accepted before = omega (arith, fresh-update i (took n) s.watches (λ w. refl), before)
advance-room s (OutOfMemory i piece k) lines accepted before =
    omega (arith, settled-room (memory_out i piece k (watch_at i s.watches) s), memory-room i piece k (watch_at i s.watches) s accepted lines before)
advance-room s NoticeTaken lines accepted before = omega (arith, length-drop 1 s.notices, before)

all-room : (configuration : Configuration) (events : List Event) → IsAccepted configuration events → length configuration.lines ≤ MONITORS_MAX → room (content configuration events) ≤ 73
all-room configuration [] accepted lines =
    omega (arith, lines, fresh-few (content configuration []).watches, length-each (watch configuration []) configuration.lines)
all-room configuration (event ∷ events) accepted lines =
    let s = content configuration events in
    subst (λ x. room x ≤ 73) (sym (keeps-content configuration events event accepted))
    (advance-room s event (omega (arith, lines, length-each (watch configuration (trace configuration events)) configuration.lines)) accepted.1.0
    (all-room configuration events accepted.0 lines))

pub notices-few : NoticesAreFew
notices-few configuration events accepted lines = omega (arith, all-room configuration events accepted lines)
