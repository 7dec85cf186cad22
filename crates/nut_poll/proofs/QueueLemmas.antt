-- Who waits: flags beside a list, and what comes behind it.
use Rattle.std.proofs.Common.{◌≡◌, ℕ, zero, suc, ◌-◌, ◌<◌, Bool, true, false, not, ◌&&◌, ◌||◌, inl, inr, cond, List, [], ◌∷◌, ◌++◌, length, get_or, set, drop, replicate, refl, sym, ap, subst, ◌∙◌, arith, map, Bor, get_or-set_same, get_or-set_other}
use Rattle.std.specs.Prelude.{nat_eq, nat_lt, slice_get, Some, None}
use Rattle.std.specs.List.{list_any, IsDistinct, AllByRecursion}
use Rattle.std.proofs.lemmas.Bool.{eqb-true, eq-eqb, ne_eqb, lt-ltb, false≢true, cases_lt, cases_eq, or_cases}
use Rattle.std.proofs.lemmas.Cmp.{nat_eq_equiv}
use Rattle.std.proofs.lemmas.List.{append-nil, length_push, get_or_past, map_push}
use Rattle.std.proofs.lemmas.List.Folds.{list_any-append}
use Rattle.std.proofs.lemmas.Map.Keys.{IsDistinct-push, IsDistinct-head, IsDistinct-tail}
use Rattle.std.proofs.lemmas.Map.Steps.{length-le_from_distinct_below}
use Rattle.circular_buffer.specs.Buffer.{Buffer, buffer, keep_last}
use Rattle.mio.specs.Event.{event_token}
use Rattle.mio.specs.declared.event.event.Event.{Event}
use Rattle.nut_poll.specs.declared.ready.TheConstants.{SOCKETS_MAX}
use Rattle.nut_poll.specs.Queue.{Queue, Looks, begun, is_waiting, joined, all_joined, first_joined, reported}
use Rattle.mio.specs.Events.{items}
use Rattle.nut_poll.specs.Turns.{Heeds}
use Rattle.nut_poll.specs.declared.rounds.Rounds.{Rounds}
use Rattle.nut_poll.specs.inside.TurnLaws.{is_behind, looks_go_on, still_waits}

-- the flags of those that wait
abbrev pub AreFlags : List Bool → List ℕ → Type 0
AreFlags flags items = (n : ℕ) → get_or flags n false ≡ is_waiting n items

-- what has a flag is one of so many
flagged : (flags : List Bool) (n : ℕ) → get_or flags n false ≡ true → n < length flags
flagged flags n is = elim (cases_lt n (length flags)) [
  | inl less ↦ less
  | inr past ↦ absurd (false≢true (sym (get_or_past flags n false past) ∙ is))
]

pub is_one : (q n : ℕ) → (nat_eq q n || false) ≡ true → q ≡ n
is_one q n is = elim (nat_eq q n) as (λ b. nat_eq q n ≡ b → (b || false) ≡ true → q ≡ n) [
  | true ↦ λ same _. eqb-true q n same
  | false ↦ λ _ no. absurd (false≢true no)
] refl is

-- with one more there are still no more than flags
pub fits : (flags : List Bool) (items : List ℕ) (n : ℕ) → IsDistinct nat_eq items → AreFlags flags items → get_or flags n false ≡ false →
    n < length flags → length items < length flags
fits flags items n distinct are absent within =
    let pushed = IsDistinct-push nat_eq_equiv items n distinct (sym (are n) ∙ absent) in
    let most = length-le_from_distinct_below (items ++ n ∷ []) (length flags) pushed below in
    omega (arith, length_push items n, most)
  where
    below : (q : ℕ) → list_any (nat_eq q) (items ++ n ∷ []) ≡ true → q < length flags
    below q is = elim (or_cases (is_waiting q items) (nat_eq q n || false) (sym (list_any-append (nat_eq q) items (n ∷ [])) ∙ is)) [
      | inl waits ↦ flagged flags q (are q ∙ waits)
      | inr one ↦ subst (λ k. k < length flags) (sym (is_one q n one)) within
    ]

-- so nothing is lost at the front
pub kept_all : (flags : List Bool) (items : List ℕ) (n : ℕ) → IsDistinct nat_eq items → AreFlags flags items → get_or flags n false ≡ false →
    n < length flags → length flags ≡ SOCKETS_MAX → keep_last SOCKETS_MAX (items ++ n ∷ []) ≡ items ++ n ∷ []
kept_all flags items n distinct are absent within many =
    let room = fits flags items n distinct are absent within in
    let none : length (items ++ n ∷ []) - SOCKETS_MAX ≡ 0 = omega (arith, length_push items n, room, many) in
    ap (λ k. drop k (items ++ n ∷ [])) none

pub distinct_with : (flags : List Bool) (items : List ℕ) (n : ℕ) → IsDistinct nat_eq items → AreFlags flags items → get_or flags n false ≡ false →
    IsDistinct nat_eq (items ++ n ∷ [])
distinct_with flags items n distinct are absent = IsDistinct-push nat_eq_equiv items n distinct (sym (are n) ∙ absent)

pub flags_with : (flags : List Bool) (items : List ℕ) (n : ℕ) → AreFlags flags items → n < length flags → AreFlags (set flags n true) (items ++ n ∷ [])
flags_with flags items n are within k = elim (cases_eq k n) [
  | inl same ↦ subst (λ j. get_or (set flags n true) j false ≡ is_waiting j (items ++ n ∷ [])) (sym same)
      (get_or-set_same flags n true false within ∙ sym (list_any-append (nat_eq n) items (n ∷ []) ∙ rw (eq-eqb n n refl) (any_or (is_waiting n items))))
  | inr other ↦ get_or-set_other flags n k true false other ∙ are k
      ∙ sym (list_any-append (nat_eq k) items (n ∷ []) ∙ rw (ne_eqb k n other) (or_none (is_waiting k items)))
]
  where
    any_or : (b : Bool) → (b || true) ≡ true
    any_or true = refl
    any_or false = refl

    or_none : (b : Bool) → (b || false) ≡ b
    or_none true = refl
    or_none false = refl

none_is : (n : ℕ) (items : List ℕ) → AllByRecursion (λ y. nat_eq n y ≡ false) items → is_waiting n items ≡ false
none_is n [] all = refl
none_is n (x ∷ xs) all = rw all.0 (none_is n xs all.1)

-- the first of distinct ones waits no more once it is taken
pub taken_once : (n : ℕ) (items : List ℕ) → IsDistinct nat_eq (n ∷ items) → is_waiting n items ≡ false
taken_once n items distinct = none_is n items (IsDistinct-head nat_eq n items distinct)

pub flags_without : (flags : List Bool) (n : ℕ) (items : List ℕ) → IsDistinct nat_eq (n ∷ items) → AreFlags flags (n ∷ items) →
    AreFlags (set flags n false) items
flags_without flags n items distinct are k = elim (cases_eq k n) [
  | inl same ↦ subst (λ j. get_or (set flags n false) j false ≡ is_waiting j items) (sym same)
      (get_or-set_same flags n false false (flagged flags n (are n ∙ rw (eq-eqb n n refl) refl)) ∙ sym (taken_once n items distinct))
  | inr other ↦ get_or-set_other flags n k false false other ∙ are k ∙ rw (ne_eqb k n other) refl
]

pub joins : (n : ℕ) (q : Queue) → Looks [] q (joined n q)
joins n q = elim (nat_lt n SOCKETS_MAX && not (is_waiting n q.waiting)) as (λ b. Looks [] q (cond b (record { waiting = q.waiting ++ n ∷ []; round = q.round }) q)) [
  | true ↦ (n ∷ [], refl)
  | false ↦ ([], sym (append-nil q.waiting))
]

pub first_join : (n : ℕ) (q : Queue) → Looks [] q (first_joined n q)
first_join zero q = ([], sym (append-nil q.waiting))
first_join (suc n) q = looks_go_on [] [] q (first_joined n q) (joined n (first_joined n q)) (first_join n q) (joins n (first_joined n q))

pub all_join : (ns : List ℕ) (q : Queue) → Looks [] q (all_joined ns q)
all_join [] q = ([], sym (append-nil q.waiting))
all_join (n ∷ ns) q = looks_go_on [] [] q (joined n q) (all_joined ns (joined n q)) (joins n q) (all_join ns (joined n q))

-- nobody is left to come
pub all_joined_none : (q from : Queue) → length from.waiting ≡ 0 → q ≡ all_joined from.waiting q
all_joined_none q from none = by_list from.waiting none where
  by_list : (ns : List ℕ) → length ns ≡ 0 → q ≡ all_joined ns q
  by_list [] is = refl
  by_list (n ∷ ns) is = absurd (cc)

pub all_joined-append : (ns ms : List ℕ) (q : Queue) → all_joined (ns ++ ms) q ≡ all_joined ms (all_joined ns q)
all_joined-append [] ms q = refl
all_joined-append (n ∷ ns) ms q = all_joined-append ns ms (joined n q)

-- the first may have come
pub first_may_join : (b : Bool) (n : ℕ) (q after : Queue) → after ≡ cond b (first_joined n q) q → Looks [] q after
first_may_join true n q after is = subst (Looks [] q) (sym is) (first_join n q)
first_may_join false n q after is = ([], ap (λ r. r.waiting) is ∙ sym (append-nil q.waiting))

-- and then a round began
pub first_may_join_round : (b : Bool) (n : ℕ) (q between after : Queue) → between ≡ cond b (first_joined n q) q → after ≡ begun between → Looks [] q after
first_may_join_round b n q between after is round =
    let came = first_may_join b n q between is in
    (came.0, ap (λ r. r.waiting) round ∙ came.1)

-- the first of a list, and the rest
pub first_of : (items : List ℕ) (n : ℕ) → slice_get items 0 ≡ Some n → items ≡ n ∷ drop 1 items
first_of [] n is = absurd (cc)
first_of (x ∷ xs) n is = let same : x ≡ n = cc in ap (λ y. y ∷ xs) same

pub none_left : (items : List ℕ) → slice_get items 0 ≡ None → length items ≡ 0
none_left [] is = refl
none_left (x ∷ xs) is = absurd (cc)

-- one that waits is below the number of flags
pub is_below : (flags : List Bool) (items : List ℕ) (n : ℕ) → AreFlags flags items → slice_get items 0 ≡ Some n → n < length flags
is_below flags items n are first =
    let here : is_waiting n items ≡ true = rw (first_of items n first) (rw (eq-eqb n n refl) refl) in
    flagged flags n (are n ∙ here)

-- one more event
pub reported_push : (es : List (Bor Event)) (e : Bor Event) → reported (map (λ x. x.now) (es ++ e ∷ [])) ≡ reported (map (λ x. x.now) es) ++ (event_token e.now).0 ∷ []
reported_push es e = ap reported (map_push (λ (x : Bor Event). x.now) es e)
    ∙ map_push (λ (x : Event). (event_token x).0) (map (λ x. x.now) es) e.now

pub one_more_reported : (es : List (Bor Event)) (e : Bor Event) (q : Queue) → joined (event_token e.now).0 (all_joined (reported (map (λ x. x.now) es)) q)
    ≡ all_joined (reported (map (λ x. x.now) (es ++ e ∷ []))) q
one_more_reported es e q = sym (ap (λ ns. all_joined ns q) (reported_push es e)
    ∙ all_joined-append (reported (map (λ x. x.now) es)) ((event_token e.now).0 ∷ []) q)

-- who comes waits, and so do those who waited
pub joined_waits : (n : ℕ) (q : Queue) → n < SOCKETS_MAX → is_waiting n (joined n q).waiting ≡ true
joined_waits n q less = by_test (is_waiting n q.waiting) refl where
  by_test : (b : Bool) → is_waiting n q.waiting ≡ b → is_waiting n (joined n q).waiting ≡ true
  by_test true is = rw (lt-ltb n SOCKETS_MAX less) (rw is is)
  by_test false is = rw (lt-ltb n SOCKETS_MAX less) (rw is (is_behind n q.waiting (n ∷ []) (rw (eq-eqb n n refl) refl)))

pub all_wait : (ns : List ℕ) (n : ℕ) (q : Queue) → n < SOCKETS_MAX → is_waiting n ns ≡ true → is_waiting n (all_joined ns q).waiting ≡ true
all_wait [] n q less is = absurd (false≢true is)
all_wait (m ∷ ns) n q less is = elim (or_cases (nat_eq n m) (is_waiting n ns) is) [
  | inl same ↦ still_waits n (joined m q) (all_joined ns (joined m q)) (all_join ns (joined m q))
      (subst (λ k. is_waiting n (joined k q).waiting ≡ true) (eqb-true n m same) (joined_waits n q less))
  | inr others ↦ all_wait ns n (joined m q) less others
]

-- those that the poll reported wait
pub heeds_reported : (a b : Rounds) → b.ready ≡ all_joined (reported (items b.events)) a.ready → Heeds [] a b
heeds_reported a b is = (
  subst (Looks [] a.ready) (sym is) (all_join (reported (items b.events)) a.ready),
  λ n less here. inr (subst (λ q. is_waiting n q.waiting ≡ true) (sym is) (all_wait (reported (items b.events)) n a.ready less here)),
)

pub no_flags : (k n : ℕ) → get_or (replicate k false) n false ≡ false
no_flags zero n = refl
no_flags (suc k) zero = refl
no_flags (suc k) (suc n) = no_flags k n

-- what a push leaves, where no more than the flags wait
module _ (flags : List Bool) (items : List ℕ) (n : ℕ) (b : Buffer ℕ) (capacity : ℕ) where
  pub pushed : b ≡ buffer (keep_last capacity (items ++ n ∷ [])) capacity → capacity ≡ SOCKETS_MAX → IsDistinct nat_eq items → AreFlags flags items →
      get_or flags n false ≡ false → n < SOCKETS_MAX → length flags ≡ SOCKETS_MAX → b.items ≡ items ++ n ∷ []
  pushed is many distinct are absent less length =
      ap (λ x. x.items) is ∙ ap (λ k. keep_last k (items ++ n ∷ [])) many
      ∙ kept_all flags items n distinct are absent (subst (λ k. n < k) (sym length) less) length

  pub popped : b ≡ buffer (drop 1 items) capacity → slice_get items 0 ≡ Some n → IsDistinct nat_eq items → AreFlags flags items →
      IsDistinct nat_eq b.items × AreFlags (set flags n false) b.items × (is_waiting n b.items ≡ false)
  popped is first distinct are =
      let all : items ≡ n ∷ drop 1 items = first_of items n first in
      let rest : b.items ≡ drop 1 items = ap (λ x. x.items) is in
      let apart : IsDistinct nat_eq (n ∷ drop 1 items) = subst (IsDistinct nat_eq) all distinct in
      let with_n : AreFlags flags (n ∷ drop 1 items) = subst (AreFlags flags) all are in (
        subst (IsDistinct nat_eq) (sym rest) (IsDistinct-tail nat_eq n (drop 1 items) apart),
        subst (AreFlags (set flags n false)) (sym rest) (flags_without flags n (drop 1 items) apart with_n),
        subst (λ xs. is_waiting n xs ≡ false) (sym rest) (taken_once n (drop 1 items) apart),
      )

pub joined_when : (n : ℕ) (q : Queue) → n < SOCKETS_MAX → is_waiting n q.waiting ≡ false → joined n q ≡ record { waiting = q.waiting ++ n ∷ []; round = q.round }
joined_when n q less absent = rw (lt-ltb n SOCKETS_MAX less) (rw absent refl)

pub none_distinct : IsDistinct nat_eq []
unfolding IsDistinct
none_distinct = tt
