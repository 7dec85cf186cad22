-- What each event changes in a monitor's content.
use Rattle.std.proofs.Common.{◌≡◌, ℕ, zero, suc, ◌<◌, ◌≤◌, Bool, true, false, List, [], ◌∷◌, ◌++◌, length, map, take, refl, sym, ap, ap₂, subst, ◌∙◌, Option, Some, None, is_some, is_none, slice_set, slice_index_or, arith, append_assoc, append-nil, length-set, le-ltb}
use Rattle.std.specs.Prelude.{if◌then◌else◌, sum_by}
use Rattle.std.proofs.lemmas.List.Sums.{sum_by-cons, sum_by-set}
use Rattle.nut_words.specs.Lines.{LineText, lines_after}
use Rattle.nut_link.specs.Hearing.{RunsOut}
use Rattle.nut_link.specs.Link.{LinkValue, fed, left_of, lines_heard, outcome_in, outcome_of, taken_out, with_exchange}
use Rattle.nut_link.specs.Exchange.{Stage}
use Rattle.nut_link.specs.Exchange as stages
use Rattle.nut_link.specs.declared.outcome.Outcome.{Outcome}
use Rattle.nut_words.specs.declared.limits.TheConstants.{PIECE_MAX}
use Rattle.nut_conf.specs.declared.monitor.Monitored.{Monitored}
use Rattle.nut_conf.specs.declared.upsmon.MonConfig.{MonConfig}
use Rattle.nut_conf.specs.declared.limits.TheConstants.{MONITORS_MAX}
use Rattle.nut_monitor_spec.specs.Acceptance.{bytes_refusal, is_linked, linked_refusal, lost_refusal, took_refusal, waits_on, watch_at}
use Rattle.nut_monitor_spec.specs.Configuration.{Configuration, Line, configuration_of, line_of}
use Rattle.nut_monitor_spec.specs.Content.{Watch, Content, content}
use Rattle.nut_monitor_spec.specs.Decision.{loss_notices}
use Rattle.nut_monitor_spec.specs.machine.Machine.{answer_after, all_asked, all_silent, answer_told, asked_next, bytes_heard, goes_on, heard_before, known_after, link_lost, loss_told, lost, memory_out, piece_heard, piece_out, put, told_heard, told_out, update, watch_answered, watch_heard, watch_out, with_watch}
use Rattle.nut_monitor_spec.specs.declared.Communication.TheVariants.{Bad}
use Rattle.nut_monitor_spec.specs.declared.Known.{Known}
use Rattle.nut_monitor_spec.specs.declared.Notice.{Notice}
use Rattle.nut_monitor_spec.specs.declared.Phase.{Phase}
use Rattle.nut_monitor_spec.specs.declared.Query.{Query}
use Rattle.nut_monitor_spec.specs.Decision.{is_bad}
use Rattle.nut_monitor.specs.inside.Inside.{IsOrderly, to_lose, unwatched}
use Rattle.nut_monitor.specs.Bounds.{AreLinksBounded, IsLinkBounded}
use Rattle.nut_monitor.proofs.Begun.{begins}
use Rattle.nut_monitor.proofs.Bounded.{AreWritable, asked_bounded, set_bounded, unwatched_bounded}

-- ---- one line

pub set_update : (f : Watch → Watch) (i : ℕ) (ws : List Watch) (w w' : Watch) → i < length ws → w ≡ slice_index_or ws i w → w' ≡ f w → slice_set ws i w' ≡ update i f ws
set_update f i [] w w' lt is new = absurd (omega arith)
set_update f zero (x ∷ ws) w w' lt is new = ap (λ y. y ∷ ws) (new ∙ ap f is)
set_update f (suc i) (x ∷ ws) w w' lt is new = ap (λ ys. x ∷ ys) (set_update f i ws w w' (omega arith) is new)

pub here : (i : ℕ) (ws : List Watch) (w : Watch) → i < length ws → w ≡ slice_index_or ws i w → watch_at i ws ≡ Some w
here i [] w lt is = absurd (omega arith)
here zero (x ∷ ws) w lt is = ap Some (sym is)
here (suc i) (x ∷ ws) w lt is = here i ws w (omega arith) is

pub linked_here : (o : Option Watch) (w : Watch) (b : Bool) → o ≡ Some w → is_linked o ≡ b → is_some w.link ≡ b
linked_here o w b is linked = sym (ap is_linked is) ∙ linked

pub took_accepted : (n : ℕ) (o : Option Watch) (w : Watch) → o ≡ Some w → is_linked o ≡ true → n ≤ length (waits_on w.link) → took_refusal n o ≡ None
took_accepted n o w is linked le = ap (took_refusal n) is ∙ rw (linked_here o w true is linked, le-ltb (length (waits_on w.link)) n le) refl

pub lost_accepted : (o : Option Watch) (w : Watch) → o ≡ Some w → is_linked o ≡ true → lost_refusal o ≡ None
lost_accepted o w is linked = ap lost_refusal is ∙ rw (linked_here o w true is linked) refl

pub linked_accepted : (o : Option Watch) (w : Watch) → o ≡ Some w → is_linked o ≡ false → linked_refusal o ≡ None
linked_accepted o w is linked = ap linked_refusal is ∙ rw (linked_here o w false is linked) refl

pub bytes_accepted : (s : Content) (p : List ℕ) (o : Option Watch) (w : Watch) → o ≡ Some w → is_linked o ≡ true → length p ≤ PIECE_MAX → length s.notices ≤ 0 → bytes_refusal s p o ≡ None
bytes_accepted s p o w is linked short free =
    ap (bytes_refusal s p) is ∙ rw (linked_here o w true is linked, le-ltb PIECE_MAX (length p) short, le-ltb 0 (length s.notices) free) refl

-- ---- bounds

to_lose-le : (b : Bool) → (if b then 0 else 1) ≤ 1
to_lose-le true = omega arith
to_lose-le false = omega arith

losable : (ws : List Watch) → sum_by to_lose ws ≤ length ws
losable [] = omega arith
losable (w ∷ ws) = omega (arith, sum_by-cons to_lose w ws, to_lose-le (is_bad w.known.communication), losable ws)

pub set_orderly : (s : Content) (i : ℕ) (w w' : Watch) → i < length s.watches → w ≡ slice_index_or s.watches i w → to_lose w' ≡ to_lose w → IsLinkBounded w'.link → IsOrderly s
    → IsOrderly (record s { watches = slice_set s.watches i w' })
set_orderly s i w w' lt is same bounded o =
    let read : to_lose (slice_index_or s.watches i w) ≡ to_lose w = ap to_lose (sym is) in
    let sums = sum_by-set to_lose s.watches i w' w lt in
    let long : length (slice_set s.watches i w') ≡ length s.watches = length-set s.watches i w' in
    record {
      all = long ∙ o.all;
      most = omega (arith, long, o.most);
      few = omega (arith, read, sums, same, o.few);
      links = set_bounded s.watches i w' o.links bounded;
    }

-- the notices between two moments or pieces fit
pub anew_orderly : (s : Content) (clock : ℕ) (news : List Notice) (ws : List Watch) → length ws ≡ length s.watches → length news ≤ MONITORS_MAX → AreLinksBounded ws → IsOrderly s
    → IsOrderly (record s { clock = clock; notices = news; watches = ws })
anew_orderly s clock news ws same few bounded o = record {
  all = same ∙ o.all;
  most = omega (arith, same, o.most);
  few = omega (arith, losable ws, same, few, o.most, to_lose-le (is_some s.ended));
  links = bounded;
}

unwatched_length : (ls : List Line) → length (map (λ line. unwatched) ls) ≡ length ls
unwatched_length [] = refl
unwatched_length (l ∷ ls) = ap suc (unwatched_length ls)

pub lines_length : (ms : List Monitored) → length (map line_of ms) ≡ length ms
lines_length [] = refl
lines_length (m ∷ ms) = ap suc (lines_length ms)

pub beginning_orderly : (u : MonConfig) (s : Content) → s ≡ content (configuration_of u) [] → IsOrderly s
beginning_orderly u s is =
    let lines = map line_of u.monitors.lines.items in
    let watches = map (λ line. unwatched) lines in
    let orderly : IsOrderly (record (content (configuration_of u) []) { watches = watches }) = record {
      all = unwatched_length lines;
      most = omega (arith, unwatched_length lines, lines_length u.monitors.lines.items, u.monitors.few);
      few = omega (arith, losable watches, unwatched_length lines, lines_length u.monitors.lines.items, u.monitors.few);
      links = unwatched_bounded lines;
    } in
    subst IsOrderly (ap (λ ws. let r : Content = record (content (configuration_of u) []) { watches = ws } in r) (begins (configuration_of u)) ∙ sym is) orderly

pub all_unwatched : (ms : List Monitored) → map (λ line. unwatched) ms ≡ map (λ line. unwatched) (map line_of ms)
all_unwatched [] = refl
all_unwatched (m ∷ ms) = ap (λ ws. unwatched ∷ ws) (all_unwatched ms)

pub length-all_silent : (c : Configuration) (k : ℕ) (ws : List Watch) → length (all_silent c k ws) ≡ length ws
length-all_silent c k [] = refl
length-all_silent c k (w ∷ ws) = ap suc (length-all_silent c k ws)

-- ---- the end of an event

put_known : (line : Line) (clock : ℕ) (o : Option Query) (w : Watch) → (put line clock o w).known ≡ w.known
put_known line clock None w = refl
put_known line clock (Some query) w = refl

asked_length : (c : Configuration) (k : ℕ) (p : Phase) (ls : List Line) (ws : List Watch) → length ws ≡ length ls → length (all_asked c k p ls ws) ≡ length ws
asked_length c k p (l ∷ ls) (w ∷ ws) e = ap suc (asked_length c k p ls ws (omega arith))
asked_length c k p _ _ e = refl

asked_sum : (c : Configuration) (k : ℕ) (p : Phase) (ls : List Line) (ws : List Watch) → sum_by to_lose (all_asked c k p ls ws) ≤ sum_by to_lose ws
asked_sum c k p (l ∷ ls) (w ∷ ws) =
    let same : to_lose (asked_next c k p l w) ≡ to_lose w = ap (λ known. if is_bad known.communication then 0 else 1) (put_known l k _ w) in
    omega (arith, sum_by-cons to_lose (asked_next c k p l w) (all_asked c k p ls ws), sum_by-cons to_lose w ws, same, asked_sum c k p ls ws)
asked_sum c k p _ _ = omega arith

pub asked_orderly : (s : Content) (p : Phase) → AreWritable s.configuration.lines → IsOrderly s → IsOrderly (record s { watches = all_asked s.configuration s.clock p s.configuration.lines s.watches })
asked_orderly s p writable o =
    let long = asked_length s.configuration s.clock p s.configuration.lines s.watches o.all in
    record {
      all = long ∙ o.all;
      most = omega (arith, long, o.most);
      few = omega (arith, asked_sum s.configuration s.clock p s.configuration.lines s.watches, o.few);
      links = asked_bounded s.configuration s.clock p s.configuration.lines s.watches writable o.links;
    }

-- ---- what holds before it

pub if_news : (b : Bool) (xs ys : List Notice) → xs ++ (if b then ys else []) ≡ (if b then xs ++ ys else xs)
if_news true xs ys = refl
if_news false xs ys = append-nil xs

pub lost_content : (s : Content) (i : ℕ) (w w' : Watch) (news : List Notice) → i < length s.watches → w ≡ slice_index_or s.watches i w → w' ≡ lost w
    → news ≡ s.notices ++ (if is_none s.begun then loss_told i w else []) → record s { notices = news; watches = slice_set s.watches i w' } ≡ link_lost i (watch_at i s.watches) s
lost_content s i w w' news lt is new told =
    ap₂ (λ n ws. record s { notices = n; watches = ws }) (told ∙ if_news (is_none s.begun) s.notices (loss_told i w)) (set_update lost i s.watches w w' lt is new)
    ∙ sym (ap (λ o. link_lost i o s) (here i s.watches w lt is))

pub heard_content : (s : Content) (i : ℕ) (p : List ℕ) (w w' : Watch) (v l : LinkValue) (news : List Notice) → i < length s.watches → w ≡ slice_index_or s.watches i w → w.link ≡ Some v → l ≡ fed p v
    → w' ≡ watch_heard s.configuration s.clock (is_none s.begun) l w
    → news ≡ s.notices ++ (if is_none s.begun then told_heard s.configuration s.clock i (is_none s.begun) l w else [])
    → record s { notices = news; watches = slice_set s.watches i w' } ≡ bytes_heard i p (watch_at i s.watches) s
heard_content s i p w w' v l news lt is link after new told =
    ap₂ (λ n ws. record s { notices = n; watches = ws }) (told ∙ if_news (is_none s.begun) s.notices (told_heard s.configuration s.clock i (is_none s.begun) l w))
    (set_update (watch_heard s.configuration s.clock (is_none s.begun) l) i s.watches w w' lt is new)
    ∙ ap (λ x. with_watch i (watch_heard s.configuration s.clock (is_none s.begun) x) (told_heard s.configuration s.clock i (is_none s.begun) x w) s) after
    ∙ sym (ap (λ o. piece_heard i p w o s) link)
    ∙ sym (ap (λ o. bytes_heard i p o s) (here i s.watches w lt is))

left_outcome : (s : Stage) → outcome_in (left_of s) ≡ outcome_in s
left_outcome (stages.Answered outcome) = refl
left_outcome _ = refl

take_front : (xs ys : List LineText) (k : ℕ) → length xs ≡ k → xs ≡ take k (xs ++ ys)
take_front [] ys zero e = refl
take_front (x ∷ xs) ys (suc k) e = ap (λ zs. x ∷ zs) (take_front xs ys k (omega arith))
take_front _ ys _ e = absurd (omega arith)

module _ (v : LinkValue) (p : List ℕ) (k : ℕ) (l : LinkValue) (out : RunsOut (lines_after v.rest p) v.exchange k l.exchange) where
  pub out_fault : is_some l.exchange.fault ≡ true
  out_fault = ap (λ e. is_some e.fault) out.stands.0

  out_lines : out.earlier ≡ take k (lines_after v.rest p)
  out_lines = take_front out.earlier (out.line ∷ out.later) k out.count ∙ ap (take k) (sym out.parted)

  out_outcome : outcome_of l.exchange ≡ outcome_of (heard_before k p v)
  out_outcome = ap outcome_of out.stands.0 ∙ left_outcome (lines_heard out.earlier v.exchange).stage ∙ ap (λ ls. outcome_of (lines_heard ls v.exchange)) out_lines

  out_watch : (c : Configuration) (clock : ℕ) (b : Bool) (w : Watch) → watch_heard c clock b l w ≡ watch_out c clock b (heard_before k p v) w
  out_watch c clock b w =
      ap (λ f. if f then lost (watch_answered c clock b (outcome_of l.exchange) w) else goes_on l (watch_answered c clock b (outcome_of l.exchange) w)) out_fault
      ∙ ap (λ o. lost (watch_answered c clock b o w)) out_outcome

  out_told : (c : Configuration) (clock i : ℕ) (b : Bool) (w : Watch) → told_heard c clock i b l w ≡ told_out c clock i b (heard_before k p v) w
  out_told c clock i b w =
      ap (λ f. answer_told c clock i w.last (outcome_of l.exchange) w.known ++ (if f then loss_told i (watch_answered c clock b (outcome_of l.exchange) w) else [])) out_fault
      ∙ ap (λ o. answer_told c clock i w.last o w.known ++ loss_told i (watch_answered c clock b o w)) out_outcome

  pub out_content : (s : Content) (i : ℕ) (w w' : Watch) (news : List Notice) → i < length s.watches → w ≡ slice_index_or s.watches i w → w.link ≡ Some v
      → w' ≡ watch_heard s.configuration s.clock (is_none s.begun) l w
      → news ≡ s.notices ++ (if is_none s.begun then told_heard s.configuration s.clock i (is_none s.begun) l w else [])
      → record s { notices = news; watches = slice_set s.watches i w' } ≡ memory_out i p k (watch_at i s.watches) s
  out_content s i w w' news lt is link new told =
      ap₂ (λ n ws. record s { notices = n; watches = ws })
      (told ∙ if_news (is_none s.begun) s.notices (told_heard s.configuration s.clock i (is_none s.begun) l w) ∙ ap (λ t. if is_none s.begun then s.notices ++ t else s.notices) (out_told s.configuration s.clock i (is_none s.begun) w))
      (set_update (watch_out s.configuration s.clock (is_none s.begun) (heard_before k p v)) i s.watches w w' lt is (new ∙ out_watch s.configuration s.clock (is_none s.begun) w))
      ∙ sym (ap (λ o. piece_out i p k w o s) link)
      ∙ sym (ap (λ o. memory_out i p k o s) (here i s.watches w lt is))

-- ---- a line hears a piece

pub watch_failed : (c : Configuration) (clock : ℕ) (b : Bool) (l : LinkValue) (w : Watch) (o : Option Outcome) (left : Option LinkValue) (known1 : Known) → is_some l.exchange.fault ≡ true → o ≡ outcome_of l.exchange
    → left ≡ (if is_some l.exchange.fault then None else Some (with_exchange (taken_out l.exchange) l)) → known1 ≡ known_after c clock b w.last o w.known
    → record { link = left; last = w.last; answer = answer_after w.last o w.answer; known = record known1 { communication = Bad } } ≡ watch_heard c clock b l w
watch_failed c clock b l w o left known1 fault answer stands known =
    ap (λ o. record { link = left; last = w.last; answer = answer_after w.last o w.answer; known = record known1 { communication = Bad } }) answer
    ∙ ap₂ (λ x k. record { link = x; last = w.last; answer = answer_after w.last (outcome_of l.exchange) w.answer; known = record k { communication = Bad } })
    (stands ∙ ap (λ f. if f then None else Some (with_exchange (taken_out l.exchange) l)) fault)
    (known ∙ ap (λ o. known_after c clock b w.last o w.known) answer)
    ∙ sym (ap (λ f. if f then lost (watch_answered c clock b (outcome_of l.exchange) w) else goes_on l (watch_answered c clock b (outcome_of l.exchange) w)) fault)

pub watch_goes_on : (c : Configuration) (clock : ℕ) (b : Bool) (l : LinkValue) (w : Watch) (o : Option Outcome) (left : Option LinkValue) (known1 : Known) → is_some l.exchange.fault ≡ false → o ≡ outcome_of l.exchange
    → left ≡ (if is_some l.exchange.fault then None else Some (with_exchange (taken_out l.exchange) l)) → known1 ≡ known_after c clock b w.last o w.known
    → record { link = left; last = w.last; answer = answer_after w.last o w.answer; known = known1 } ≡ watch_heard c clock b l w
watch_goes_on c clock b l w o left known1 fault answer stands known =
    ap (λ o. record { link = left; last = w.last; answer = answer_after w.last o w.answer; known = known1 }) answer
    ∙ ap₂ (λ x k. record { link = x; last = w.last; answer = answer_after w.last (outcome_of l.exchange) w.answer; known = k })
    (stands ∙ ap (λ f. if f then None else Some (with_exchange (taken_out l.exchange) l)) fault)
    (known ∙ ap (λ o. known_after c clock b w.last o w.known) answer)
    ∙ sym (ap (λ f. if f then lost (watch_answered c clock b (outcome_of l.exchange) w) else goes_on l (watch_answered c clock b (outcome_of l.exchange) w)) fault)

both_news : (b : Bool) (xs a l : List Notice) → (xs ++ (if b then a else [])) ++ (if b then l else []) ≡ xs ++ (if b then a ++ l else [])
both_news true xs a l = append_assoc xs a l
both_news false xs a l = append-nil (xs ++ [])

no_news : (b : Bool) (xs a : List Notice) → xs ++ (if b then a else []) ≡ xs ++ (if b then a ++ [] else [])
no_news true xs a = ap (λ ys. xs ++ ys) (sym (append-nil a))
no_news false xs a = refl

pub told_failed : (c : Configuration) (clock i : ℕ) (b : Bool) (l : LinkValue) (w : Watch) (o : Option Outcome) (known1 : Known) (xs ys zs : List Notice) → is_some l.exchange.fault ≡ true → o ≡ outcome_of l.exchange
    → known1 ≡ known_after c clock b w.last o w.known → ys ≡ xs ++ (if b then answer_told c clock i w.last o w.known else []) → zs ≡ ys ++ (if b then loss_notices i known1.communication else [])
    → zs ≡ xs ++ (if b then told_heard c clock i b l w else [])
told_failed c clock i b l w o known1 xs ys zs fault answer known first second =
    second ∙ ap₂ (λ y k. y ++ (if b then loss_notices i k.communication else [])) first known
    ∙ both_news b xs (answer_told c clock i w.last o w.known) (loss_notices i (known_after c clock b w.last o w.known).communication)
    ∙ ap (λ o. xs ++ (if b then answer_told c clock i w.last o w.known ++ loss_notices i (known_after c clock b w.last o w.known).communication else [])) answer
    ∙ sym (ap (λ f. xs ++ (if b then answer_told c clock i w.last (outcome_of l.exchange) w.known ++ (if f then loss_told i (watch_answered c clock b (outcome_of l.exchange) w) else []) else [])) fault)

pub told_goes_on : (c : Configuration) (clock i : ℕ) (b : Bool) (l : LinkValue) (w : Watch) (o : Option Outcome) (xs ys : List Notice) → is_some l.exchange.fault ≡ false → o ≡ outcome_of l.exchange
    → ys ≡ xs ++ (if b then answer_told c clock i w.last o w.known else []) → ys ≡ xs ++ (if b then told_heard c clock i b l w else [])
told_goes_on c clock i b l w o xs ys fault answer first =
    first ∙ ap (λ o. xs ++ (if b then answer_told c clock i w.last o w.known else [])) answer
    ∙ no_news b xs (answer_told c clock i w.last (outcome_of l.exchange) w.known)
    ∙ sym (ap (λ f. xs ++ (if b then answer_told c clock i w.last (outcome_of l.exchange) w.known ++ (if f then loss_told i (watch_answered c clock b (outcome_of l.exchange) w) else []) else [])) fault)

pub some_same : {v w : Watch} → Some v ≡ Some w → v ≡ w
some_same is = cc
