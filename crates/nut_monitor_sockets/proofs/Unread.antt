-- Links on which there may be something to read wait.
use Rattle.std.proofs.Common.{◌≡◌, ◌≢◌, ◌⊎◌, ◌<◌, ◌≤◌, ℕ, zero, suc, true, false, ◌||◌, List, [], ◌∷◌, ◌++◌, Option, Some, None, IfSome, length, refl, sym, ap, subst, ◌∙◌, set, inl, inr, map, Bor}
use Rattle.std.specs.Prelude.{slice_get, nat_eq}
use Rattle.std.proofs.lemmas.Bool.{cases_eq, or_cases, eqb-true}
use Rattle.std.proofs.lemmas.List.{append-nil}
use Rattle.std.proofs.lemmas.Option.{slice_get_past}
use Rattle.std.proofs.lemmas.List.Folds.{list_any-append}
use Rattle.mio.specs.Event.{event_token}
use Rattle.mio.specs.declared.event.event.Event.{Event}
use Rattle.nut_poll.specs.Queue.{Queue, Looks, is_waiting, reported}
use Rattle.nut_poll.specs.declared.ready.TheConstants.{SOCKETS_MAX}
use Rattle.nut_poll.specs.inside.TurnLaws.{still_waits}
use Rattle.nut_poll.proofs.QueueLemmas.{is_one, reported_push}
use Rattle.nut_monitor_sockets.specs.declared.links.Links.{Links}
use Rattle.nut_monitor_sockets.specs.declared.upstream.Upstream.{Upstream}
use Rattle.nut_monitor_sockets.specs.Turns.{IsNoted, WaitsUnread, unread}

at_set : (us : List Upstream) (i : ℕ) (u : Upstream) (P : Upstream → Type 0) → P u → IfSome (slice_get (set us i u) i) P
at_set [] i u P is = tt
at_set (x ∷ us) zero u P is = is
at_set (x ∷ us) (suc i) u P is = at_set us i u P is

other_than_set : (us : List Upstream) (i k : ℕ) (u : Upstream) → k ≢ i → slice_get (set us i u) k ≡ slice_get us k
other_than_set [] i k u other = refl
other_than_set (x ∷ us) zero zero u other = absurd (other refl)
other_than_set (x ∷ us) zero (suc k) u other = refl
other_than_set (x ∷ us) (suc i) zero u other = refl
other_than_set (x ∷ us) (suc i) (suc k) u other = other_than_set us i k u (λ same. other (ap suc same))

if_some : (o : Option Upstream) (P Q : Upstream → Type 0) → ((u : Upstream) → P u → Q u) → IfSome o P → IfSome o Q
if_some None P Q more is = tt
if_some (Some u) P Q more is = more u is

-- If there may be something to read on the link with this number, it waits.
abbrev pub At : ℕ → List Upstream → Queue → Type 0
At k us q = k < SOCKETS_MAX → IfSome (slice_get us k) (λ u. unread u.stage ≡ Some true → is_waiting k q.waiting ≡ true)

pub looks_self : (q : Queue) → Looks [] q q
looks_self q = ([], sym (append-nil q.waiting))

-- another link was written, and others came
pub at_other : (k i : ℕ) (us : List Upstream) (q after : Queue) (u : Upstream) → k ≢ i → Looks [] q after → At k us q → At k (set us i u) after
at_other k i us q after u other looks waits less = subst (λ o. IfSome o (λ v. unread v.stage ≡ Some true → is_waiting k after.waiting ≡ true))
    (sym (other_than_set us i k u other))
    (if_some (slice_get us k) (λ v. unread v.stage ≡ Some true → is_waiting k q.waiting ≡ true)
    (λ v. unread v.stage ≡ Some true → is_waiting k after.waiting ≡ true)
    (λ v here more. still_waits k q after looks (here more)) (waits less))

-- a link was written, and it waits if there may be something to read
pub written : (i : ℕ) (us : List Upstream) (q after : Queue) (u : Upstream) → Looks [] q after
    → (i < SOCKETS_MAX → unread u.stage ≡ Some true → is_waiting i after.waiting ≡ true) → (k : ℕ) → (k ≢ i → At k us q) → At k (set us i u) after
written i us q after u looks waits k before = elim (cases_eq k i) [
  | inl same ↦ subst (λ j. At j (set us i u) after) (sym same) (λ less. at_set us i u (λ v. unread v.stage ≡ Some true → is_waiting i after.waiting ≡ true) (waits less))
  | inr other ↦ at_other k i us q after u other looks (before other)
]

pub waits_itself : (i : ℕ) (us : List Upstream) (q : Queue) (after : Links) → ((k : ℕ) → (k ≢ i → At k us q) → WaitsUnread k after) → WaitsUnread i after
waits_itself i us q after leaves = leaves i (λ other. absurd (other refl))

-- the link that was taken is looked at, and each waits again
pub looked_at : (i : ℕ) (start before after : Links) (left : Queue) → before.rounds.ready.waiting ≡ i ∷ left.waiting
    → ((k : ℕ) → (k ≢ i → At k before.upstreams.items left) → WaitsUnread k after)
    → (((k : ℕ) → WaitsUnread k start) → (k : ℕ) → WaitsUnread k before) → ((k : ℕ) → WaitsUnread k start) → (k : ℕ) → WaitsUnread k after
looked_at i start before after left front leaves so_far all k = leaves k (λ other less. if_some (slice_get before.upstreams.items k)
    (λ v. unread v.stage ≡ Some true → is_waiting k before.rounds.ready.waiting ≡ true) (λ v. unread v.stage ≡ Some true → is_waiting k left.waiting ≡ true)
    (λ v waits more. behind other (or_cases (nat_eq k i) (is_waiting k left.waiting) (subst (λ ns. is_waiting k ns ≡ true) front (waits more))))
    (so_far all k less))
  where
    behind : k ≢ i → (nat_eq k i ≡ true) ⊎ (is_waiting k left.waiting ≡ true) → is_waiting k left.waiting ≡ true
    behind other (inl is) = absurd (other (eqb-true k i is))
    behind other (inr is) = is

-- of one more event
one_of : (es : List (Bor Event)) (e : Bor Event) (i : ℕ) → is_waiting i (reported (map (λ x. x.now) (es ++ e ∷ []))) ≡ true
    → (is_waiting i (reported (map (λ x. x.now) es)) ≡ true) ⊎ (i ≡ (event_token e.now).0)
one_of es e i is = elim (or_cases (is_waiting i (reported (map (λ x. x.now) es))) (nat_eq i (event_token e.now).0 || false)
    (sym (list_any-append (nat_eq i) (reported (map (λ x. x.now) es)) ((event_token e.now).0 ∷ []))
    ∙ subst (λ ns. is_waiting i ns ≡ true) (reported_push es e) is)) [
      | inl before ↦ inl before
      | inr last ↦ inr (is_one i (event_token e.now).0 last)
    ]

pub noted_more : (es : List (Bor Event)) (e : Bor Event) (old new : List Upstream) (u : Upstream) → new ≡ set old (event_token e.now).0 u → unread u.stage ≢ Some false
    → ((i : ℕ) → is_waiting i (reported (map (λ x. x.now) es)) ≡ true → IsNoted (slice_get old i))
    → (i : ℕ) → is_waiting i (reported (map (λ x. x.now) (es ++ e ∷ []))) ≡ true → IsNoted (slice_get new i)
noted_more es e old new u is noted before i here = subst (λ us. IsNoted (slice_get us i)) (sym is) (elim (cases_eq i (event_token e.now).0) [
  | inl same ↦ subst (λ k. IsNoted (slice_get (set old (event_token e.now).0 u) k)) (sym same) (at_set old (event_token e.now).0 u (λ v. unread v.stage ≢ Some false) noted)
  | inr other ↦ subst IsNoted (sym (other_than_set old (event_token e.now).0 i u other)) (elim (one_of es e i here) [
    | inl earlier ↦ before i earlier
    | inr one ↦ absurd (other one)
  ])
])

pub noted_none : (es : List (Bor Event)) (e : Bor Event) (us : List Upstream) → length us ≤ (event_token e.now).0
    → ((i : ℕ) → is_waiting i (reported (map (λ x. x.now) es)) ≡ true → IsNoted (slice_get us i))
    → (i : ℕ) → is_waiting i (reported (map (λ x. x.now) (es ++ e ∷ []))) ≡ true → IsNoted (slice_get us i)
noted_none es e us past before i here = elim (one_of es e i here) [
  | inl earlier ↦ before i earlier
  | inr one ↦ subst (λ k. IsNoted (slice_get us k)) (sym one) (subst IsNoted (sym (slice_get_past us (event_token e.now).0 past)) tt)
]
