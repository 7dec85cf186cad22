-- What a link was sent, event by event.
use Rattle.std.proofs.Common.{◌≡◌, ℕ, zero, suc, ◌+◌, ◌≤◌, ◌⊎◌, Bool, true, false, eqb, ltb, List, [], ◌∷◌, ◌++◌, length, take, drop, Option, Some, None, is_some, if◌then◌else◌, refl, sym, ◌∙◌, ap, subst, arith, inl, inr, length-append, length-drop, take-add}
use Rattle.std.proofs.lemmas.Bool.{cases_Bool, eqb-true, eq-eqb, ltb-false}
use Rattle.std.proofs.lemmas.List.{take-append-le}
use Rattle.nut_proto.specs.Requests.{request_line}
use Rattle.nut_link.specs.Link.{waits as waits_in_exchange}
use Rattle.nut_monitor_spec.specs.declared.MonitorFault.{MonitorFault}
use Rattle.nut_monitor_spec.specs.declared.MonitorFault.TheVariants.{TooMuchTaken, WrongLinkState}
use Rattle.nut_monitor_spec.specs.declared.Query.{Query}
use Rattle.nut_monitor_spec.specs.Configuration.{Line, Configuration, line_in}
use Rattle.nut_monitor_spec.specs.Event.{Event, Linked, LinkTook}
use Rattle.nut_monitor_spec.specs.Query.{request}
use Rattle.nut_monitor_spec.specs.Trace.{Asked, Entry, clock, linked, queries, outstanding, due, sent, waits, taken, taken_after, since_linked, asked_in, joined_queries, trace, entry_of}
use Rattle.nut_monitor_spec.specs.Content.{Watch, content, content_of, watch, link_at, stage_in, for_each_line}
use Rattle.nut_monitor_spec.specs.Acceptance.{IsAccepted, refusal, took_refusal, watch_at, waiting_on, waits_on}

-- ---- queries that are put at the end of an event

asked_front : (line : Line) (moment event t : ℕ) (query : Option Query) (older : List Asked) → t ≤ length (joined_queries line older)
    → take t (joined_queries line (asked_in moment event query older)) ≡ take t (joined_queries line older)
asked_front line moment event t None older fits = refl
asked_front line moment event t (Some query) older fits = take-append-le t (joined_queries line older) (request_line (request line query)) fits

asked_more : (line : Line) (moment event : ℕ) (query : Option Query) (older : List Asked) → length (joined_queries line older) ≤ length (joined_queries line (asked_in moment event query older))
asked_more line moment event None older = omega arith
asked_more line moment event (Some query) older = omega (arith, length-append (joined_queries line older) (request_line (request line query)))

-- ---- one event

module _ (first : Configuration) (past : List Entry) (i : ℕ) where
  -- no more was taken than was due
  abbrev pub IsFew : Type 0
  IsFew = taken i past ≤ length (due first i past)

  -- what is due after an event, before queries are put at its end
  abbrev pub still_due : Event → List ℕ
  still_due e = joined_queries (line_in first.lines i) (since_linked [] i e (queries i past))

  few_after : (e : Event) → taken_after i e (taken i past) ≤ length (still_due e) → taken i (entry_of first past e ∷ past) ≤ length (due first i (entry_of first past e ∷ past))
  unfolding entry_of
  few_after e fits =
      let more = asked_more (line_in first.lines i) (clock (entry_of first past e ∷ past)) (length (entry_of first past e ∷ past)) ((entry_of first past e).put i) (since_linked [] i e (queries i past)) in
      omega (arith, fits, more)

  sent_after : (e : Event) → taken_after i e (taken i past) ≤ length (still_due e)
      → sent first i (entry_of first past e ∷ past) ≡ take (taken_after i e (taken i past)) (still_due e)
  unfolding entry_of
  sent_after e fits = asked_front (line_in first.lines i) (clock (entry_of first past e ∷ past)) (length (entry_of first past e ∷ past)) (taken_after i e (taken i past)) ((entry_of first past e).put i) (since_linked [] i e (queries i past)) fits

-- ---- what waits

pub found : (i : ℕ) (f : ℕ → Watch) (lines : List Line) → (watch_at i (for_each_line f lines) ≡ None) ⊎ (watch_at i (for_each_line f lines) ≡ Some (f i))
found i f [] = inl refl
found zero f (line ∷ lines) = inr refl
found (suc i) f (line ∷ lines) = found i (λ j. f (suc j)) lines

-- Nothing waits, or what is due without what was taken.
abbrev Waits : Configuration → List Entry → ℕ → List ℕ → Type 0
Waits first past i bytes = (bytes ≡ []) ⊎ (bytes ≡ drop (taken i past) (due first i past))

staged : (first : Configuration) (past : List Entry) (i : ℕ) (o : Option Asked) → linked i past ≡ true → outstanding i past ≡ o
    → Waits first past i (waits_in_exchange (link_at first past i).exchange)
staged first past i None there is = inl (ap (λ o. waits_in_exchange (record { stage = stage_in (line_in first.lines i) o (waits first i past); fault = None })) is)
staged first past i (Some asked) there is =
    inr (ap (λ o. waits_in_exchange (record { stage = stage_in (line_in first.lines i) o (waits first i past); fault = None })) is
    ∙ ap (λ b. if b then drop (taken i past) (due first i past) else []) there)

on_link : (first : Configuration) (past : List Entry) (i : ℕ) (b : Bool) → linked i past ≡ b → Waits first past i (waits_on (if b then Some (link_at first past i) else None))
on_link first past i true there = staged first past i (outstanding i past) there refl
on_link first past i false there = inl refl

at_watch : (first : Configuration) (past : List Entry) (i : ℕ) (o : Option Watch) → (o ≡ None) ⊎ (o ≡ Some (watch first past i)) → Waits first past i (waiting_on o)
at_watch first past i o which =
    elim which [
      | inl none ↦ inl (ap waiting_on none)
      | inr is ↦ subst (λ x. Waits first past i (waiting_on x)) (sym is) (on_link first past i (linked i past) refl)
    ]

pub offered : (first : Configuration) (past : List Entry) (i : ℕ) → Waits first past i (waiting_on (watch_at i (content_of first past).watches))
offered first past i = at_watch first past i _ (found i (watch first past) first.lines)

-- taken bytes passed the test that refuses too many
within_test : (b : Bool) (n m : ℕ) (fault other : MonitorFault) → (if b then (if ltb m n then Some other else None) else Some fault) ≡ None → n ≤ m
within_test true n m fault other is =
    elim (cases_Bool (ltb m n)) [
      | inl more ↦ absurd (let never : Some other ≡ None = sym (ap (λ b. if b then Some other else None) more) ∙ is in cc)
      | inr less ↦ omega (arith, ltb-false m n less)
    ]
within_test false n m fault other is = cc

taken_within : (n : ℕ) (o : Option Watch) → took_refusal n o ≡ None → n ≤ length (waiting_on o)
taken_within n None is = cc
taken_within n (Some w) is = within_test (is_some w.link) n (length (waits_on w.link)) WrongLinkState TooMuchTaken is

-- ---- no more is taken than is due

fits_when : (b : Bool) (t n m : ℕ) → t ≤ m → (b ≡ true → t + n ≤ m) → (if b then t + n else t) ≤ m
fits_when true t n m few more = more refl
fits_when false t n m few more = few

made_fits : (b : Bool) (line : Line) (t : ℕ) (older : List Asked) → t ≤ length (joined_queries line older) → (if b then 0 else t) ≤ length (joined_queries line (if b then [] else older))
made_fits true line t older few = omega arith
made_fits false line t older few = few

taken_fits : (first : Configuration) (past : List Entry) (i n : ℕ) → took_refusal n (watch_at i (content_of first past).watches) ≡ None → IsFew first past i
    → taken i past + n ≤ length (due first i past)
taken_fits first past i n free few =
    let within = taken_within n (watch_at i (content_of first past).watches) free in
    elim (offered first past i) [
      | inl none ↦ omega (arith, within, ap length none, few)
      | inr rest ↦ omega (arith, within, ap length rest, few, length-drop (taken i past) (due first i past))
    ]

fits : (first : Configuration) (past : List Entry) (i : ℕ) (e : Event) → refusal (content_of first past) e ≡ None → IsFew first past i → taken_after i e (taken i past) ≤ length (still_due first past i e)
fits first past i (Linked j) free few = made_fits (eqb j i) (line_in first.lines i) (taken i past) (queries i past) few
fits first past i (LinkTook j n) free few =
    fits_when (eqb j i) (taken i past) n (length (due first i past)) few
    (λ same. taken_fits first past i n (subst (λ k. took_refusal n (watch_at k (content_of first past).watches) ≡ None) (eqb-true j i same) free) few)
fits first past i event free few = few

few_always : (first : Configuration) (h : List Event) (i : ℕ) → IsAccepted first h → IsFew first (trace first h) i
few_always first [] i accepted = omega arith
few_always first (e ∷ h) i accepted =
    let few = few_always first h i accepted.0 in
    few_after first (trace first h) i e (fits first (trace first h) i e accepted.1.0 few)

sent_here : (first : Configuration) (h : List Event) (i : ℕ) (e : Event) → IsAccepted first (e ∷ h)
    → sent first i (trace first (e ∷ h)) ≡ take (taken_after i e (taken i (trace first h))) (still_due first (trace first h) i e)
sent_here first h i e accepted = sent_after first (trace first h) i e (fits first (trace first h) i e accepted.1.0 (few_always first h i accepted.0))

-- ---- the laws

made_sent : (b : Bool) (line : Line) (t : ℕ) (older : List Asked) → take (if b then 0 else t) (joined_queries line (if b then [] else older)) ≡ (if b then [] else take t (joined_queries line older))
made_sent true line t older = refl
made_sent false line t older = refl

-- by an event that takes no bytes: a link that is made begins anew
pub sent-given : (first : Configuration) (h : List Event) (i : ℕ) (e : Event) → IsAccepted first (e ∷ h) → ((t : ℕ) → taken_after i e t ≡ since_linked 0 i e t)
    → sent first i (trace first (e ∷ h)) ≡ since_linked [] i e (sent first i (trace first h))
sent-given first h i (Linked j) accepted nothing = sent_here first h i (Linked j) accepted ∙ made_sent (eqb j i) (line_in first.lines i) (taken i (trace first h)) (queries i (trace first h))
sent-given first h i (LinkTook j n) accepted nothing =
    sent_here first h i (LinkTook j n) accepted ∙ ap (λ t. take t (due first i (trace first h))) (nothing (taken i (trace first h)))
sent-given first h i event accepted nothing = sent_here first h i event accepted

-- what was taken of the bytes that wait was sent
pub sent-took : (first : Configuration) (h : List Event) (i n : ℕ) → IsAccepted first (LinkTook i n ∷ h)
    → sent first i (trace first (LinkTook i n ∷ h)) ≡ sent first i (trace first h) ++ take n (waiting_on (watch_at i (content first h).watches))
sent-took first h i n accepted =
    let past = trace first h in
    let within : n ≤ length (waiting_on (watch_at i (content first h).watches)) = taken_within n (watch_at i (content first h).watches) accepted.1.0 in
    let same : sent first i (trace first (LinkTook i n ∷ h)) ≡ take (taken i past + n) (due first i past) =
    sent_here first h i (LinkTook i n) accepted ∙ ap (λ b. take (if b then taken i past + n else taken i past) (due first i past)) (eq-eqb i i refl) in
    same ∙ take-add (taken i past) n (due first i past) ∙ ap (λ x. sent first i past ++ x) (rest n within) where
      rest : (m : ℕ) → m ≤ length (waiting_on (watch_at i (content first h).watches)) → take m (drop (taken i (trace first h)) (due first i (trace first h))) ≡ take m (waiting_on (watch_at i (content first h).watches))
      rest m less =
          elim (offered first (trace first h) i) [
            | inl none ↦
                let nothing : m ≡ 0 = omega (arith, less, ap length none) in
                subst (λ k. take k (drop (taken i (trace first h)) (due first i (trace first h))) ≡ take k (waiting_on (watch_at i (content first h).watches))) (sym nothing) refl
            | inr is ↦ ap (take m) (sym is)
          ]

-- taking bytes of another link changes nothing of what this one was sent
pub sent-took_other : (first : Configuration) (h : List Event) (i j n : ℕ) → IsAccepted first (LinkTook j n ∷ h) → eqb j i ≡ false
    → sent first i (trace first (LinkTook j n ∷ h)) ≡ sent first i (trace first h)
sent-took_other first h i j n accepted other =
    sent_here first h i (LinkTook j n) accepted ∙ ap (λ b. take (if b then taken i (trace first h) + n else taken i (trace first h)) (due first i (trace first h))) other
