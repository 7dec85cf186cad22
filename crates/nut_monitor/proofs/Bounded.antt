-- The links of a monitor keep no more than `IsLinkBounded` allows.
use Rattle.std.proofs.Common.{◌≡◌, ℕ, zero, suc, ◌<◌, ◌≤◌, Bool, true, false, List, [], ◌∷◌, length, map, sym, subst, Option, Some, None, is_some, Result, slice_set, slice_index_or, arith, leb-true}
use Rattle.std.specs.Prelude.{if◌then◌else◌, nat_le}
use Rattle.std.specs.List.{AllByRecursion, list_all}
use Rattle.std.proofs.lemmas.Bool.{and_parts}
use Rattle.nut_words.specs.Spelling.{is_printing}
use Rattle.nut_words.specs.declared.limits.TheConstants.{LINE_MAX}
use Rattle.nut_conf.specs.declared.monitor.Monitored.{Monitored}
use Rattle.nut_proto.specs.Lines.{message}
use Rattle.nut_proto.specs.Requests.{request_parts, request_line}
use Rattle.nut_proto.specs.declared.request.Request.{Request}
use Rattle.nut_link.specs.Asking.{is_writable}
use Rattle.nut_link.specs.Bounds.{IsBounded}
use Rattle.nut_link.specs.Hearing.{Feeds}
use Rattle.nut_link.specs.Link.{LinkValue, outcome_of}
use Rattle.nut_link.specs.declared.fault.LinkFault.{LinkFault}
use Rattle.nut_link.proofs.Bounded.{bounds_stay, fed_within}
use Rattle.nut_link.proofs.Writable.{length_line}
use Rattle.nut_link.specs.declared.limits.TheConstants.{QUERY_MAX}
use Rattle.nut_monitor_spec.specs.Configuration.{Configuration, Line, line_of}
use Rattle.nut_monitor_spec.specs.Content.{Watch}
use Rattle.nut_monitor_spec.specs.machine.Machine.{all_asked, all_silent, goes_on, is_silent, link_after, link_asked, link_took, lost, put, silent, took, watch_answered, watch_heard}
use Rattle.nut_monitor_spec.specs.Query.{request}
use Rattle.nut_monitor_spec.specs.declared.Phase.{Phase}
use Rattle.nut_monitor_spec.specs.declared.Query.{Query}
use Rattle.nut_monitor_spec.proofs.Writables.{query_writable}
use Rattle.nut_monitor.specs.inside.Inside.{unwatched}
use Rattle.nut_monitor.specs.Bounds.{AreLinksBounded, IsLinkBounded}

-- ---- one link

pub took_bounded : (n : ℕ) (w : Watch) → IsLinkBounded w.link → IsLinkBounded (took n w).link
took_bounded n w h = by_link w.link h where
  by_link : (o : Option LinkValue) → IsLinkBounded o → IsLinkBounded (link_took n o)
  by_link None h = tt
  by_link (Some v) h = record { stage = bounds_stay.takes n v.exchange h.stage; line = h.line }

after_bounded : (v : LinkValue) (w : Watch) → IsBounded v → IsLinkBounded (link_after v w).link
after_bounded v w h = by_test (is_some v.exchange.fault) where
  by_test : (b : Bool) → IsLinkBounded (if b then lost w else goes_on v w).link
  by_test true = tt
  by_test false = record { stage = bounds_stay.takes_out v.exchange h.stage; line = h.line }

pub heard_bounded : (c : Configuration) (clock : ℕ) (b : Bool) (v l : LinkValue) (w : Watch) (p : List ℕ) (done : ℕ) (r : Result (Unit {0}) LinkFault)
    → Feeds v p done r l → w.link ≡ Some v → IsLinkBounded w.link → IsLinkBounded (watch_heard c clock b l w).link
heard_bounded c clock b v l w p done r feeds is h =
    let before : IsBounded v = subst IsLinkBounded is h in
    after_bounded l (watch_answered c clock b (outcome_of l.exchange) w) (fed_within v l p done r feeds before)

-- ---- a query is put

-- the queries of these lines are writable
abbrev pub AreWritable : List Line → Type 0
AreWritable lines = AllByRecursion (λ line. (query : Query) → is_writable (request line query) ≡ true) lines

pub lines_writable : (ms : List Monitored) → AreWritable (map line_of ms)
lines_writable [] = tt
lines_writable (m ∷ ms) = (query_writable m, lines_writable ms)

query_few : (asked : Request) → is_writable asked ≡ true → length (request_line asked) ≤ QUERY_MAX
query_few asked writable =
    let text = message (request_parts asked) in
    let short : nat_le (length text) LINE_MAX ≡ true = (and_parts (nat_le (length text) LINE_MAX) (list_all is_printing text) writable).0 in
    omega (arith, length_line asked, leb-true (length text) LINE_MAX short)

put_bounded : (line : Line) (clock : ℕ) (query : Option Query) (w : Watch) → ((query : Query) → is_writable (request line query) ≡ true) → IsLinkBounded w.link → IsLinkBounded (put line clock query w).link
put_bounded line clock None w writable h = h
put_bounded line clock (Some query) w writable h = by_link w.link h where
  by_link : (o : Option LinkValue) → IsLinkBounded o → IsLinkBounded (link_asked (request line query) o)
  by_link None h = tt
  by_link (Some v) h = record { stage = record { query = query_few (request line query) (writable query); rows = omega arith }; line = h.line }

pub asked_bounded : (c : Configuration) (k : ℕ) (p : Phase) (ls : List Line) (ws : List Watch) → AreWritable ls → AreLinksBounded ws → AreLinksBounded (all_asked c k p ls ws)
asked_bounded c k p [] ws writable h = h
asked_bounded c k p (l ∷ ls) [] writable h = tt
asked_bounded c k p (l ∷ ls) (w ∷ ws) writable h = (put_bounded l k _ w writable.0 h.0, asked_bounded c k p ls ws writable.1 h.1)

-- ---- all lines

pub set_bounded : (ws : List Watch) (i : ℕ) (w' : Watch) → AreLinksBounded ws → IsLinkBounded w'.link → AreLinksBounded (slice_set ws i w')
set_bounded [] i w' h one = tt
set_bounded (w ∷ ws) zero w' h one = (one, h.1)
set_bounded (w ∷ ws) (suc i) w' h one = (h.0, set_bounded ws i w' h.1 one)

pub at_bounded : (ws : List Watch) (i : ℕ) (w : Watch) → i < length ws → w ≡ slice_index_or ws i w → AreLinksBounded ws → IsLinkBounded w.link
at_bounded [] i w lt is h = absurd (omega arith)
at_bounded (x ∷ ws) zero w lt is h = subst (λ (y : Watch). IsLinkBounded y.link) (sym is) h.0
at_bounded (x ∷ ws) (suc i) w lt is h = at_bounded ws i w (omega arith) is h.1

silent_bounded : (c : Configuration) (k : ℕ) (w : Watch) → IsLinkBounded w.link → IsLinkBounded (silent c k w).link
silent_bounded c k w h = by_test (is_silent c k w) where
  by_test : (b : Bool) → IsLinkBounded (if b then record w { known = record w.known { silence_told = Some k } } else w).link
  by_test true = h
  by_test false = h

pub all_silent_bounded : (c : Configuration) (k : ℕ) (ws : List Watch) → AreLinksBounded ws → AreLinksBounded (all_silent c k ws)
all_silent_bounded c k [] h = tt
all_silent_bounded c k (w ∷ ws) h = (silent_bounded c k w h.0, all_silent_bounded c k ws h.1)

pub unwatched_bounded : (ls : List Line) → AreLinksBounded (map (λ line. unwatched) ls)
unwatched_bounded [] = tt
unwatched_bounded (l ∷ ls) = (tt, unwatched_bounded ls)
