-- Nobody is passed over.
use Rattle.std.proofs.Common.{◌≡◌, ℕ, ◌<◌, Bool, true, false, ◌||◌, cond, List, [], ◌∷◌, ◌++◌, length, refl, sym, ap, subst, ◌∙◌, arith, length-append}
use Rattle.std.specs.Prelude.{nat_eq}
use Rattle.std.specs.List.{filter, IsDistinct, AllByRecursion}
use Rattle.std.proofs.lemmas.Bool.{eqb-true, eq-eqb, false≢true}
use Rattle.std.proofs.lemmas.Cmp.{nat_eq_equiv}
use Rattle.std.proofs.lemmas.Map.Made.{length-le_from_is_member}
use Rattle.nut_poll.specs.Queue.{is_waiting}
use Rattle.nut_poll.specs.Turns.{NobodyIsPassedOver, EachHasItsTurn, OthersComeOnce}

passed : (waiting : List ℕ) (one : ℕ) (before after left came : List ℕ) → is_waiting one waiting ≡ false →
    (before ++ one ∷ after) ++ left ≡ waiting ++ came → (more : List ℕ) × (before ≡ waiting ++ more)
passed [] one before after left came _ _ = (before, refl)
passed (w ∷ ws) one [] after left came apart is =
    let same : one ≡ w = cc in
    let twice : (nat_eq one w || is_waiting one ws) ≡ true = rw (eq-eqb one w same) refl in
    absurd (false≢true (sym apart ∙ twice))
passed (w ∷ ws) one (b ∷ bs) after left came apart is =
    let here : b ≡ w = cc in
    let rest : (bs ++ one ∷ after) ++ left ≡ ws ++ came = cc in
    let others : is_waiting one ws ≡ false = others_of (nat_eq one w) _ apart in
    let found = passed ws one bs after left came others rest in
    (found.0, (let e = found.1 in cc))
  where
    others_of : (x y : Bool) → (x || y) ≡ false → y ≡ false
    others_of true y is = absurd (false≢true (sym is))
    others_of false y is = is

pub nobody_is_passed_over : NobodyIsPassedOver
nobody_is_passed_over one before after a b apart (came, is) = passed a.waiting one before after b.waiting came apart is

turn : (before looked : List ℕ) (one : ℕ) (after left came : List ℕ) → looked ++ left ≡ (before ++ one ∷ after) ++ came →
    length before < length looked → (more : List ℕ) × (looked ≡ before ++ one ∷ more)
turn [] [] one after left came is less = absurd (omega arith)
turn [] (x ∷ xs) one after left came is less = (xs, (let here : x ≡ one = cc in ap (λ y. y ∷ xs) here))
turn (b ∷ bs) [] one after left came is less = absurd (omega arith)
turn (b ∷ bs) (x ∷ xs) one after left came is less =
    let here : x ≡ b = cc in
    let rest : xs ++ left ≡ (bs ++ one ∷ after) ++ came = cc in
    let fewer : length bs < length xs = omega arith in
    let found = turn bs xs one after left came rest fewer in
    (found.0, (let e = found.1 in cc))

pub each_has_its_turn : EachHasItsTurn
each_has_its_turn one before after looked a b waits (came, is) less =
    turn before looked one after b.waiting came (is ∙ ap (λ xs. xs ++ came) waits) less

-- those that are left of distinct ones, with the last of them
module _ (test : ℕ → Bool) (one : ℕ) where
  apart : (x : ℕ) (before after : List ℕ) → AllByRecursion (λ y. nat_eq x y ≡ false) (before ++ one ∷ after) →
      AllByRecursion (λ y. nat_eq x y ≡ false) (filter test before ++ one ∷ [])
  apart x [] after all = (all.0, tt)
  apart x (y ∷ ys) after all = elim (test y) as (λ b. AllByRecursion (λ y. nat_eq x y ≡ false) (cond b (y ∷ filter test ys) (filter test ys) ++ one ∷ [])) [
    | true ↦ (all.0, apart x ys after all.1)
    | false ↦ apart x ys after all.1
  ]

  left : (before after : List ℕ) → IsDistinct nat_eq (before ++ one ∷ after) → IsDistinct nat_eq (filter test before ++ one ∷ [])
  unfolding IsDistinct
  left [] after all = (tt, tt)
  left (x ∷ xs) after all = elim (test x) as (λ b. IsDistinct nat_eq (cond b (x ∷ filter test xs) (filter test xs) ++ one ∷ [])) [
    | true ↦ (apart x xs after all.0, left xs after all.1)
    | false ↦ left xs after all.1
  ]

among : (sources : List ℕ) (one q : ℕ) (before : List ℕ) → is_waiting one sources ≡ true →
    is_waiting q (filter (λ n. is_waiting n sources) before ++ one ∷ []) ≡ true → is_waiting q sources ≡ true
among sources one q [] has is = elim (nat_eq q one) as (λ b. nat_eq q one ≡ b → (b || false) ≡ true → is_waiting q sources ≡ true) [
  | true ↦ λ same _. subst (λ n. is_waiting n sources ≡ true) (sym (eqb-true q one same)) has
  | false ↦ λ _ no. absurd (false≢true no)
] refl is
among sources one q (x ∷ xs) has is = elim (is_waiting x sources) as (λ b. is_waiting x sources ≡ b →
    is_waiting q (cond b (x ∷ filter (λ n. is_waiting n sources) xs) (filter (λ n. is_waiting n sources) xs) ++ one ∷ []) ≡ true → is_waiting q sources ≡ true) [
      | true ↦ λ here. elim (nat_eq q x) as (λ b. nat_eq q x ≡ b → (b || is_waiting q (filter (λ n. is_waiting n sources) xs ++ one ∷ [])) ≡ true → is_waiting q sources ≡ true) [
        | true ↦ λ same _. subst (λ n. is_waiting n sources ≡ true) (sym (eqb-true q x same)) here
        | false ↦ λ _ rest. among sources one q xs has rest
      ] refl
      | false ↦ λ _ rest. among sources one q xs has rest
    ] refl is

pub others_come_once : OthersComeOnce
others_come_once one before after sources distinct has =
    let test : ℕ → Bool = λ n. is_waiting n sources in
    let most = length-le_from_is_member nat_eq_equiv (filter test before ++ one ∷ []) sources (left test one before after distinct) (λ q is. among sources one q before has is) in
    omega (arith, length-append (filter test before) (one ∷ []), most)
