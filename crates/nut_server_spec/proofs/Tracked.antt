-- What a UPS remembers of tracked requests is what looking back for their numbers says.
use Rattle.std.proofs.Common.{◌≡◌, ℕ, zero, suc, ◌+◌, ◌<◌, ◌≤◌, Bool, true, false, eqb, List, [], ◌∷◌, ◌++◌, length, map, flat_map, take, refl, sym, ◌∙◌, ap, ap₂, subst, arith, inl, inr, Option, Some, None}
use Rattle.std.specs.Prelude.{◌==◌, nat_lt, if◌then◌else◌, find, option_map}
use Rattle.std.specs.Option.{option_map_or, option_or}
use Rattle.std.proofs.lemmas.Bool.{cases_Bool, eqb-true, eq-eqb, ne_eqb, le-ltb, lt-ltb, false≢true}
use Rattle.std.proofs.lemmas.Bool.Decides.{nat_tests}
use Rattle.std.proofs.lemmas.List.{append-nil, length-map, length-take, take_all, take-map, take-take}
use Rattle.std.proofs.lemmas.List.Folds.{flat_map-map}
use Rattle.std.proofs.lemmas.Grind.{flat_map-append}
use Rattle.std.proofs.lemmas.Iterator.Adapters.{option_map_id}
use Rattle.nut_words.specs.Lines.{LineText}
use Rattle.nut_proto.specs.declared.tracking.TrackingStatus.{TrackingStatus}
use Rattle.nut_proto.specs.declared.tracking.TrackingStatus.TheVariants.{Pending, Unknown}
use Rattle.nut_server_spec.specs.declared.limits.TheConstants.{TRACKED_MAX}
use Rattle.nut_server_spec.specs.Answer.{Answer}
use Rattle.nut_server_spec.specs.Command.{command_of}
use Rattle.nut_server_spec.specs.Configuration.{Configuration}
use Rattle.nut_server_spec.specs.Content.{content, past, supply}
use Rattle.nut_server_spec.specs.Effect.{at_target, number_in, target}
use Rattle.nut_server_spec.specs.Event.{Step, Said, Up, Reported, Down, steps}
use Rattle.nut_server_spec.specs.Numbering.{Fate, Kept, Disconnected, Cleared, Numbering, below, by_fate}
use Rattle.nut_server_spec.specs.Trace.{Entry, numbering, places, places_after, given, given_then, tracked, tracked_after, trace, answer_at, asks_at, fate_at, closes_at, device, scene, caller, logged_out, ups_numbers}
use Rattle.nut_server_spec.specs.Tracking.{Tracked, abandoned, all_abandoned, ended_by, judged, told_in, with_tracked}
use Rattle.nut_server_spec.specs.laws.Tracked.{asked_ups, ended, ended_after, given_since, target_at, track, TrackingLooksBack}
use Rattle.nut_server_spec.proofs.Given.{AreKnown, answered_given}
use Rattle.nut_server_spec.proofs.Numbering.{number_below, numbers_below}
use Rattle.nut_server_spec.proofs.Places.{below-length}

-- ---- numbers are given once, to UPSes that exist

-- An entry that gives this number to a request: the number is the next one, the entry is a client's line, its UPS exists,
-- and all UPSes are kept.
record IsGiven (first : Configuration) (before : List Entry) (e : Entry) (number : ℕ) : Type 0 where
  next : number ≡ given before + 1
  client : ℕ
  line : LineText
  said : e.step ≡ Said client line
  ups : ℕ
  there : target (numbering first before) (command_of line) ≡ Some ups
  within : ups < places first before
  kept : (u : ℕ) → e.fate u ≡ Kept

abbrev IsGivenAt : Configuration → List Entry → Entry → Type 0
IsGivenAt first before e = (number : ℕ) → number_in e.answer ≡ Some number → IsGiven first before e number

abbrev AreGiven : Configuration → List Entry → Type 0
AreGiven first [] = Unit {0}
AreGiven first (e ∷ before) = IsGivenAt first before e × AreGiven first before

device_count : (first : Configuration) (t : List Entry) → length (scene first t).devices ≡ places first t
device_count first t = length-map (below (places first t)) (device first t) ∙ below-length (places first t)

are_known : (first : Configuration) (t : List Entry) → AreKnown (scene first t)
are_known first t name u is = omega (arith, number_below (places first t) (numbering first t) name u (numbers_below first t) is, device_count first t)

abbrev entry : Configuration → List Entry → Step → Entry
entry first before step = record {
  step = step;
  answer = answer_at first before step;
  asks = asks_at first before step;
  fate = fate_at first before step;
  closes = closes_at first before step;
}

given_at : (first : Configuration) (before : List Entry) (step : Step) → IsGivenAt first before (entry first before step)
given_at first before (Said c line) = λ number is.
    let given = answered_given (scene first before) (are_known first before) (caller first before c) (command_of line) (logged_out c before) number is in
    record {
      next = given.0;
      client = c;
      line = line;
      said = refl;
      ups = given.1.0;
      there = given.1.1;
      within = omega (arith, given.1.2, device_count first before);
      kept = λ u. refl;
    }
given_at first before step = λ number is. cc

are_given : (first : Configuration) (ss : List Step) → AreGiven first (trace first ss)
are_given first [] = tt
are_given first (s ∷ ss) = (given_at first (trace first ss) s, are_given first ss)

-- ---- a number before it is given

not_yet : (first : Configuration) (n : ℕ) (t : List Entry) → AreGiven first t → given t < n → asked_ups first n t ≡ None
not_yet first n [] are less = refl
not_yet first n (e ∷ before) are less = by (number_in e.answer) refl (not_yet first n before are.1) where
  by : (o : Option ℕ) → number_in e.answer ≡ o → (given before < n → asked_ups first n before ≡ None) → asked_ups first n (e ∷ before) ≡ None
  by None is earlier =
      let less' : given before < n = rw is at less in
      rw is (earlier less')
  by (Some m) is earlier =
      let next = (are.0 m is).next in
      let less' : given before + 1 < n = rw is at less in
      let other : eqb m n ≡ false = ne_eqb m n (λ same. omega (arith, same, next, less')) in
      rw (is, other) (earlier (omega (arith, less')))

-- ---- the number of the UPS that was asked

places_grow : (step : Step) (n : ℕ) → n ≤ places_after step n
places_grow step n = grind arith

asked_within : (first : Configuration) (n w : ℕ) (t : List Entry) → AreGiven first t → asked_ups first n t ≡ Some w → w < places first t
asked_within first n w [] are is = cc
asked_within first n w (e ∷ before) are is = by (number_in e.answer) refl (asked_within first n w before are.1) where
  grown : w < places first before → w < places first (e ∷ before)
  grown less = omega (arith, less, places_grow e.step (places first before))

  by : (o : Option ℕ) → number_in e.answer ≡ o → (asked_ups first n before ≡ Some w → w < places first before) → w < places first (e ∷ before)
  by None quiet earlier = grown (earlier (rw quiet at is))
  by (Some m) gives earlier =
      let g = are.0 m gives in
      elim (cases_Bool (eqb m n)) [
        | inl e' ↦
            let both : Some g.ups ≡ Some w = sym g.there ∙ (rw (gives, e', g.said) at is) in
            let same : g.ups ≡ w = cc in
            grown (subst (λ k. k < places first before) same g.within)
        | inr e' ↦ grown (earlier (rw (gives, e') at is))
      ]

-- ---- the status of a request among others

-- the status of the request with the number n, if it is among these
abbrev status_in : ℕ → List Tracked → Option TrackingStatus
status_in n [] = None
status_in n (t ∷ xs) = if t.number == n then Some t.status else status_in n xs

-- what is answered of a request with this status, if it is known
abbrev answered : Option TrackingStatus → TrackingStatus
answered o = option_map_or (λ status. status) o Unknown

found_status : (n : ℕ) (xs : List Tracked) → option_map_or (λ t. t.status) (find (λ t. t.number == n) xs) Unknown ≡ answered (status_in n xs)
found_status n [] = refl
found_status n (x ∷ xs) = elim (cases_Bool (eqb x.number n)) [ inl e ↦ rw e refl | inr e ↦ rw e (found_status n xs) ]

status_in-append : (n : ℕ) (xs ys : List Tracked) → status_in n (xs ++ ys) ≡ option_or (status_in n xs) (status_in n ys)
status_in-append n [] ys = refl
status_in-append n (x ∷ xs) ys = elim (cases_Bool (eqb x.number n)) [ inl e ↦ rw e refl | inr e ↦ rw e (status_in-append n xs ys) ]

-- these requests with other statuses
abbrev restated : (ℕ → TrackingStatus → TrackingStatus) → List Tracked → List Tracked
restated f xs = map (λ t. record { number = t.number; status = f t.number t.status }) xs

status_in-restated : (n : ℕ) (f : ℕ → TrackingStatus → TrackingStatus) (xs : List Tracked) → status_in n (restated f xs) ≡ option_map (f n) (status_in n xs)
status_in-restated n f [] = refl
status_in-restated n f (x ∷ xs) =
    elim (cases_Bool (eqb x.number n)) [
      | inl e ↦ rw e (ap (λ m. Some (f m x.status)) (eqb-true x.number n e))
      | inr e ↦ rw e (status_in-restated n f xs)
    ]

-- a status, unless it is unknown
abbrev known : TrackingStatus → Option TrackingStatus
known Unknown = None
known status = Some status

-- This change of statuses makes no unknown status known, and no known one unknown.
abbrev KeepsKnown : (TrackingStatus → TrackingStatus) → Type 0
KeepsKnown f = (status : TrackingStatus) → option_map f (known status) ≡ known (f status)

abandoned_keeps : KeepsKnown abandoned
abandoned_keeps status = grind arith

judged_keeps : (told : ℕ) → KeepsKnown (judged told)
judged_keeps told status = grind (arith, cases_Bool)

ended_keeps : (told : Option (ℕ × ℕ)) (n : ℕ) → KeepsKnown (ended_by told n)
ended_keeps told n = grind (arith, option_map_id, judged_keeps)

-- ---- what a UPS remembers of the request

either_none : (b : Bool) (o : Option TrackingStatus) → o ≡ None → (if b then o else None) ≡ None
either_none b o is = grind arith

at_same : {A : Type 0} (u : ℕ) (o : Option ℕ) (f : A → A) (x : A) → f x ≡ x → at_target u o f x ≡ x
at_same u o f x same = grind (arith, cases_Bool)

less_suc : (a b : ℕ) → nat_lt (a + 1) (suc b) ≡ nat_lt a b
less_suc a b = elim (cases_Bool (nat_lt a b)) [ inl e ↦ rw e (grind (arith, nat_tests, e)) | inr e ↦ rw e (grind (arith, nat_tests, e)) ]

module _ (n u : ℕ) where
  -- the status that u is expected to remember, if the request with the number n was to this UPS and has this status
  abbrev expected : Option ℕ → TrackingStatus → Option TrackingStatus
  expected None status = None
  expected (Some w) status = if w == u then known status else None

  -- These are no more requests than are remembered. The newest k of them tell this status of the request with the number
  -- n if fewer than k were tracked after it; else they tell nothing of it.
  abbrev Remembers : ℕ → Option TrackingStatus → List Tracked → Type 0
  Remembers since status xs = (length xs ≤ TRACKED_MAX) × ((k : ℕ) → k ≤ TRACKED_MAX → status_in n (take k xs) ≡ (if nat_lt since k then status else None))

  -- These requests tell of the request with the number n what u is expected to remember.
  abbrev IsAsExpected : Option ℕ → ℕ → TrackingStatus → List Tracked → Type 0
  IsAsExpected o since status xs = Remembers since (expected o status) xs

  expected_other : (o : Option ℕ) (status : TrackingStatus) → (o ≡ Some u → ⊥) → expected o status ≡ None
  expected_other o status other = grind (arith, cases_Bool, eqb-true)

  expected_unknown : (o : Option ℕ) → expected o Unknown ≡ None
  expected_unknown o = grind arith

  expected_changed : (f : TrackingStatus → TrackingStatus) → KeepsKnown f → (o : Option ℕ) (status : TrackingStatus) → option_map f (expected o status) ≡ expected o (f status)
  expected_changed f keeps o status = grind (arith, cases_Bool)

  of_nothing : (o : Option ℕ) (since : ℕ) → IsAsExpected o since Unknown []
  of_nothing o since = grind (arith, take_all, expected_unknown)

  of_restated : (b : Bool) (f : ℕ → TrackingStatus → TrackingStatus) → KeepsKnown (f n) → (o : Option ℕ) (since : ℕ) (status : TrackingStatus) (xs : List Tracked)
      → IsAsExpected o since status xs → IsAsExpected o since (if b then f n status else status) (if b then restated f xs else xs)
  of_restated b f keeps o since status xs before = grind (arith, length-map, take-map, status_in-restated, expected_changed)

  -- a step that gives no number
  of_quiet : (now : Numbering) (step : Step) (reply : Answer) (o : Option ℕ) (since : ℕ) (status : TrackingStatus) (xs : List Tracked) → number_in reply ≡ None
      → IsAsExpected o since status xs
      → IsAsExpected o (at_target u (target_at now step) (given_then reply) since) (ended_after u n step status) (tracked_after now u step reply xs)
  of_quiet now (Said c line) reply o since status xs quiet before =
      let asked = target now (command_of line) in
      rw (at_same u asked (given_then reply) since (rw quiet refl), at_same u asked (with_tracked (number_in reply)) xs (rw quiet refl)) before
  of_quiet now (Up v) reply o since status xs quiet before = of_restated (v == u) (λ m. abandoned) abandoned_keeps o since status xs before
  of_quiet now (Reported v line) reply o since status xs quiet before =
      of_restated (v == u) (ended_by (told_in line)) (ended_keeps (told_in line) n) o since status xs before
  of_quiet now (Down v) reply o since status xs quiet before = of_restated (v == u) (λ m. abandoned) abandoned_keeps o since status xs before
  of_quiet now step reply o since status xs quiet before = before

  -- what becomes of u
  of_fate : (fate : Fate) (o : Option ℕ) (since : ℕ) (status : TrackingStatus) (xs : List Tracked) → IsAsExpected o since status xs
      → IsAsExpected o since (by_fate fate Unknown abandoned status) (by_fate fate [] all_abandoned xs)
  of_fate Kept o since status xs before = before
  of_fate Disconnected o since status xs before = of_restated true (λ m. abandoned) abandoned_keeps o since status xs before
  of_fate Cleared o since status xs before = of_nothing o since

  -- a step that gives the number m to a request to v
  of_given : (v m : ℕ) (o : Option ℕ) (since : ℕ) (status : TrackingStatus) (xs : List Tracked) → (m ≡ n → o ≡ None) → IsAsExpected o since status xs
      → IsAsExpected (if m == n then Some v else o) (if m == n then 0 else if v == u then since + 1 else since) (if m == n then Pending else status)
      (if v == u then with_tracked (Some m) xs else xs)
  of_given v m o since status xs new before = by (v == u) refl (m == n) refl where
    after : List Tracked
    after = record { number = m; status = Pending } ∷ xs

    newest : (since' : ℕ) (told : Option TrackingStatus)
        → ((k : ℕ) → suc k ≤ TRACKED_MAX → (if m == n then Some Pending else status_in n (take k xs)) ≡ (if nat_lt since' (suc k) then told else None))
        → Remembers since' told (with_tracked (Some m) xs)
    newest since' told is = (omega (arith, length-take TRACKED_MAX after), λ k le. ap (status_in n) (take-take k TRACKED_MAX after le) ∙ each k le) where
      each : (k : ℕ) → k ≤ TRACKED_MAX → status_in n (take k after) ≡ (if nat_lt since' k then told else None)
      each zero le = rw (le-ltb since' zero (omega arith)) refl
      each (suc k) le = is k le

    by : (here : Bool) → (v == u) ≡ here → (same : Bool) → (m == n) ≡ same
        → IsAsExpected (if m == n then Some v else o) (if m == n then 0 else if v == u then since + 1 else since) (if m == n then Pending else status)
        (if v == u then with_tracked (Some m) xs else xs)
    by true e true e' = rw (e', e) (newest 0 (Some Pending) (λ k le. rw (e', lt-ltb zero (suc k) (omega arith)) refl))
    by true e false e' = rw (e', e) (newest (since + 1) (expected o status) (λ k le. rw (e', less_suc since k) (before.1 k (omega (arith, le)))))
    by false e true e' =
        let none : expected o status ≡ None = rw (new (eqb-true m n e')) refl in
        rw (e', e) (before.0, λ k le. before.1 k le ∙ either_none (nat_lt since k) (expected o status) none ∙ sym (either_none (nat_lt 0 k) None refl))
    by false e false e' = rw (e', e) before

  remembers : (first : Configuration) (t : List Entry) → AreGiven first t → IsAsExpected (asked_ups first n t) (given_since first u n t) (ended u n t) (tracked first u t)
  remembers first [] are = of_nothing None 0
  remembers first (e ∷ before) are = by (number_in e.answer) refl (remembers first before are.1) where
    by : (number : Option ℕ) → number_in e.answer ≡ number → IsAsExpected (asked_ups first n before) (given_since first u n before) (ended u n before) (tracked first u before)
        → IsAsExpected (asked_ups first n (e ∷ before)) (given_since first u n (e ∷ before)) (ended u n (e ∷ before)) (tracked first u (e ∷ before))
    by None quiet earlier =
        rw quiet (of_fate (e.fate u) _ _ _ _ (of_quiet (numbering first before) e.step e.answer _ _ _ _ quiet earlier))
    by (Some m) gives earlier =
        let g = are.0 m gives in
        let new : m ≡ n → asked_ups first n before ≡ None = λ same. not_yet first n before are.1 (omega (arith, same, g.next)) in
        rw (g.said, g.kept u, g.there, gives) (of_given g.ups m _ _ _ _ new earlier)

  remembered : (first : Configuration) (t : List Entry) → AreGiven first t
      → status_in n (tracked first u t) ≡ (if nat_lt (given_since first u n t) TRACKED_MAX then expected (asked_ups first n t) (ended u n t) else None)
  remembered first t are =
      let r = remembers first t are in
      ap (status_in n) (sym (take_all TRACKED_MAX (tracked first u t) r.0)) ∙ r.1 TRACKED_MAX (omega arith)

-- ---- all UPSes

module _ (n : ℕ) (f : ℕ → List Tracked) where
  one_more : (k : ℕ) → status_in n (flat_map f (below (suc k))) ≡ option_or (status_in n (flat_map f (below k))) (status_in n (f k))
  one_more k = grind (arith, flat_map-append, flat_map, append-nil, status_in-append)

  -- no UPS remembers the request
  nobody : (k : ℕ) → ((u : ℕ) → u < k → status_in n (f u) ≡ None) → status_in n (flat_map f (below k)) ≡ None
  nobody zero none = refl
  nobody (suc k) none = one_more k ∙ ap₂ option_or (nobody k (λ u less. none u (omega (arith, less)))) (none k (omega arith))

  -- no UPS but w does
  only : (k w : ℕ) → w < k → ((u : ℕ) → (w ≡ u → ⊥) → status_in n (f u) ≡ None) → status_in n (flat_map f (below k)) ≡ status_in n (f w)
  only zero w less others = absurd (omega (arith, less))
  only (suc k) w less others =
      one_more k ∙ elim (cases_Bool (eqb w k)) [
        | inl e ↦
            let same = eqb-true w k e in
            ap (λ o. option_or o (status_in n (f k))) (nobody k (λ u less'. others u (λ is. omega (arith, is, same, less')))) ∙ ap (λ u. status_in n (f u)) (sym same)
        | inr e ↦
            let apart : (w ≡ k) → ⊥ = λ is. false≢true (sym e ∙ eq-eqb w k is) in
            ap₂ option_or (only k w (omega (arith, less, apart)) others) (others k apart) ∙ or_none (status_in n (f w))
      ] where
        or_none : (o : Option TrackingStatus) → option_or o None ≡ o
        or_none None = refl
        or_none (Some status) = refl

module _ (first : Configuration) (t : List Entry) (are : AreGiven first t) (n : ℕ) where
  other_forgets : (u : ℕ) → (asked_ups first n t ≡ Some u → ⊥) → status_in n (tracked first u t) ≡ None
  other_forgets u other = grind (arith, remembered, expected_other)

  by_ups : (o : Option ℕ) → asked_ups first n t ≡ o → answered (status_in n (flat_map (λ u. tracked first u t) (ups_numbers first t))) ≡ track first n t
  by_ups None is =
      let none = nobody n (λ u. tracked first u t) (places first t) (λ u less. other_forgets u (λ other. let both : None ≡ Some u = sym is ∙ other in cc)) in
      rw is (ap answered none)
  by_ups (Some w) is =
      let others : (u : ℕ) → (w ≡ u → ⊥) → status_in n (tracked first u t) ≡ None =
      λ u apart. other_forgets u (λ other. let both : Some w ≡ Some u = sym is ∙ other in let same : w ≡ u = cc in apart same) in
      let one = only n (λ u. tracked first u t) (places first t) w (asked_within first n w t are is) others in
      rw is (ap answered (one ∙ own) ∙ by_age (nat_lt (given_since first w n t) TRACKED_MAX)) where
        own : status_in n (tracked first w t) ≡ (if nat_lt (given_since first w n t) TRACKED_MAX then known (ended w n t) else None)
        own = remembered n w first t are ∙ rw (is, eq-eqb w w refl) refl

        by_age : (b : Bool) → answered (if b then known (ended w n t) else None) ≡ (if b then ended w n t else Unknown)
        by_age b = grind arith

pub tracking_looks_back : TrackingLooksBack
tracking_looks_back first h n =
    let t = past first h in
    found_status n (flat_map (λ d. d.tracked) (map (λ d. d.device) (content first h).supplies))
    ∙ ap (λ xs. answered (status_in n xs))
    (flat_map-map (λ d. d.tracked) (λ d. d.device) (content first h).supplies ∙ flat_map-map (λ d. d.device.tracked) (supply first h) (ups_numbers first t))
    ∙ by_ups first t (are_given first (steps h)) n (asked_ups first n t) refl
