-- The open connections stay in order.
use Rattle.std.proofs.Common.{filter, ◌≡◌, ℕ, ◌+◌, ◌<◌, ◌≤◌, Bool, true, false, eqb, leb, List, [], ◌∷◌, ◌++◌, refl, arith, inl, inr, Option, Some, None}
use Rattle.std.specs.Prelude.{find, option_map, IsTrue}
use Rattle.std.proofs.lemmas.Bool.{cases_Bool, eqb-true, eq-eqb, ne_eqb, false≢true}
use Rattle.std.proofs.lemmas.Bool.Decides.{nat_tests}
use Rattle.nut_server_spec.specs.Content.{Session}
use Rattle.nut_server_spec.specs.Acceptance.{session_of}
use Rattle.nut_server_spec.specs.laws.Laws.{IsBelow, IsRising, IsUpTo}
use Rattle.nut_server.specs.inside.Inside.{numbers_of}
use Rattle.nut_server.specs.Settling.{is_unsettled, settles, IsNextUnsettled}

IsBelow-filter : (p : Session → Bool) (n : ℕ) (ks : List Session) → IsBelow n (numbers_of ks) → IsBelow n (numbers_of (filter p ks))
IsBelow-filter p n [] below = tt
IsBelow-filter p n (k ∷ ks) below = elim (cases_Bool (p k)) [ inl e ↦ rw e (below.0, IsBelow-filter p n ks below.1) | inr e ↦ rw e (IsBelow-filter p n ks below.1) ]

pub IsRising-filter : (p : Session → Bool) (ks : List Session) → IsRising (numbers_of ks) → IsRising (numbers_of (filter p ks))
IsRising-filter p [] rising = tt
IsRising-filter p (k ∷ ks) rising =
    elim (cases_Bool (p k)) [ inl e ↦ rw e (IsBelow-filter p k.number ks rising.0, IsRising-filter p ks rising.1) | inr e ↦ rw e (IsRising-filter p ks rising.1) ]

pub IsUpTo-filter : (p : Session → Bool) (n : ℕ) (ks : List Session) → IsUpTo n (numbers_of ks) → IsUpTo n (numbers_of (filter p ks))
IsUpTo-filter p n [] up = tt
IsUpTo-filter p n (k ∷ ks) up = elim (cases_Bool (p k)) [ inl e ↦ rw e (up.0, IsUpTo-filter p n ks up.1) | inr e ↦ rw e (IsUpTo-filter p n ks up.1) ]

IsBelow-push : (n : ℕ) (k : Session) (ks : List Session) → IsBelow n (numbers_of ks) → n < k.number → IsBelow n (numbers_of (ks ++ k ∷ []))
IsBelow-push n k [] below less = (less, tt)
IsBelow-push n k (j ∷ ks) below less = (below.0, IsBelow-push n k ks below.1 less)

pub IsRising-push : (n : ℕ) (k : Session) (ks : List Session) → IsRising (numbers_of ks) → IsUpTo n (numbers_of ks) → n < k.number → IsRising (numbers_of (ks ++ k ∷ []))
IsRising-push n k [] rising up less = (tt, tt)
IsRising-push n k (j ∷ ks) rising up less = (IsBelow-push j.number k ks rising.0 (omega (arith, up.0)), IsRising-push n k ks rising.1 up.1 less)

pub IsUpTo-push : (n : ℕ) (k : Session) (ks : List Session) → IsUpTo n (numbers_of ks) → k.number ≡ n + 1 → IsUpTo (n + 1) (numbers_of (ks ++ k ∷ []))
IsUpTo-push n k [] up is = (omega arith, tt)
IsUpTo-push n k (j ∷ ks) up is = (omega (arith, up.0), IsUpTo-push n k ks up.1 is)

-- No session has a number less than all of them.
pub none_below : (d n : ℕ) (ks : List Session) → IsBelow n (numbers_of ks) → d ≤ n → session_of d ks ≡ None
none_below d n [] below le = refl
none_below d n (k ∷ ks) below le = let e : eqb k.number d ≡ false = ne_eqb k.number d (λ is. omega (arith, below.0)) in rw e (none_below d n ks below.1 le)

-- A session that the search passes over, although its number is at least `least`, is settled.
passed : (least : ℕ) (k : Session) (d : ℕ) → settles least k ≡ false → k.number ≡ d → least ≤ d → is_unsettled (Some k) ≡ false
passed least k d not_this is le = let test : leb least k.number ≡ true = grind (arith, nat_tests) in rw test at not_this

earlier : (least : ℕ) (k : Session) (ks : List Session) (d : ℕ) → settles least k ≡ false → least ≤ d → is_unsettled (session_of d ks) ≡ false → is_unsettled (session_of d (k ∷ ks)) ≡ false
earlier least k ks d not_this le rest =
    elim (cases_Bool (eqb k.number d)) [
      | inl e ↦ rw e (passed least k d not_this (eqb-true k.number d e) le)
      | inr e ↦ rw e rest
    ]

later : (least : ℕ) (k : Session) (ks : List Session) (o : Option ℕ) → settles least k ≡ false → IsBelow k.number (numbers_of ks) → IsNextUnsettled ks least o → IsNextUnsettled (k ∷ ks) least o
later least k ks None not_this below next = λ d le. earlier least k ks d not_this le (next d le)
later least k ks (Some c) not_this below next = (next.0, there, λ d le lt. earlier least k ks d not_this le (next.2 d le lt)) where
  there : IsTrue (is_unsettled (session_of c (k ∷ ks)))
  there = elim (cases_Bool (eqb k.number c)) [
    | inl e ↦ let none : session_of c ks ≡ None = none_below c k.number ks below (omega (arith, eqb-true k.number c e)) in absurd (false≢true (rw none at next.1))
    | inr e ↦ rw e next.1
  ]

this : (least : ℕ) (k : Session) (ks : List Session) → settles least k ≡ true → IsBelow k.number (numbers_of ks) → IsNextUnsettled (k ∷ ks) least (Some k.number)
this least k ks settled below =
    elim (cases_Bool (leb least k.number)) [
      | inl e ↦
          let here : eqb k.number k.number ≡ true = eq-eqb k.number k.number refl in
          let unsettled : is_unsettled (Some k) ≡ true = rw e at settled in (
            grind (arith, nat_tests),
            rw here unsettled,
            λ d le lt.
                let other : eqb k.number d ≡ false = ne_eqb k.number d (λ is. omega arith) in
                let none : session_of d ks ≡ None = none_below d k.number ks below (omega arith) in
                rw (other, none) refl,
          )
      | inr e ↦ absurd (false≢true (rw e at settled))
    ]

-- The first session that the search finds has the least number.
pub next_is : (least : ℕ) (ks : List Session) → IsRising (numbers_of ks) → IsNextUnsettled ks least (option_map (λ k. k.number) (find (settles least) ks))
next_is least [] rising = λ d le. refl
next_is least (k ∷ ks) rising =
    elim (cases_Bool (settles least k)) [
      | inl e ↦ rw e (this least k ks e rising.0)
      | inr e ↦ rw e (later least k ks (option_map (λ k. k.number) (find (settles least) ks)) e rising.0 (next_is least ks rising.1))
    ]
