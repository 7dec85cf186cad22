-- The numbers of UPSes: none is greater than there are places, and a number that no UPS has is free.
use Rattle.std.proofs.Common.{◌≡◌, ℕ, zero, suc, ◌+◌, ◌<◌, ◌≤◌, false, eqb, List, [], ◌∷◌, ◌++◌, length, refl, ap, arith, inl, inr, Option, Some, None}
use Rattle.std.specs.Prelude.{if◌then◌else◌, position, slice_get}
use Rattle.std.specs.List.{AllByRecursion, position_or_len}
use Rattle.std.proofs.lemmas.Bool.{cases_Bool, ne_eqb, le-ltb, true≢false}
use Rattle.std.proofs.lemmas.Option.{option_and_then_some}
use Rattle.nut_server_spec.specs.Configuration.{Configuration, Ups, number_of_ups}
use Rattle.nut_server_spec.specs.Event.{Step}
use Rattle.nut_server_spec.specs.Numbering.{Numbering, below, number_of, ups_with, is_taken, first_free, least_free, kept_numbers, given_numbers, renumbered}
use Rattle.nut_server_spec.specs.Trace.{Entry, numbers, numbering, places, renumbered_by, places_after}

-- Each of the numbers is less than m.
abbrev pub AreBelow : ℕ → List ℕ → Type 0
AreBelow m ns = AllByRecursion (λ n. n < m) ns

pub are_below_more : (m k : ℕ) (ns : List ℕ) → m ≤ k → AreBelow m ns → AreBelow k ns
are_below_more m k [] le all = tt
are_below_more m k (n ∷ ns) le all = (omega (arith, le, all.0), are_below_more m k ns le all.1)

are_below_push : (m n : ℕ) (ns : List ℕ) → AreBelow m ns → n < m → AreBelow m (ns ++ n ∷ [])
are_below_push m n [] all less = (less, tt)
are_below_push m n (k ∷ ns) all less = (all.0, are_below_push m n ns all.1 less)

pub below_are : (n : ℕ) → AreBelow n (below n)
below_are zero = tt
below_are (suc n) = are_below_push (suc n) n (below n) (are_below_more n (suc n) (below n) (omega arith) (below_are n)) (omega arith)

found_below : (m : ℕ) (ns : List ℕ) (i n : ℕ) → AreBelow m ns → slice_get ns i ≡ Some n → n < m
found_below m [] i n all found = cc
found_below m (k ∷ ns) zero n all found = let same : k ≡ n = cc in omega (arith, same, all.0)
found_below m (k ∷ ns) (suc i) n all found = found_below m ns i n all.1 found

-- the number of a UPS is among the numbers
pub number_below : (m : ℕ) (now : Numbering) (name : List ℕ) (n : ℕ) → AreBelow m now.numbers → number_of name now ≡ Some n → n < m
number_below m now name n all is = option_and_then_some (slice_get now.numbers) (number_of_ups name now.upses) n is (λ place there found. found_below m now.numbers place n all found)

-- ---- numbers that are given

free_below : (more n : ℕ) (taken : List ℕ) → first_free more n taken ≤ n + more
free_below zero n taken = omega arith
free_below (suc more) n taken = elim (cases_Bool (is_taken n taken)) [ inl e ↦ rw e (omega (arith, free_below more (n + 1) taken)) | inr e ↦ rw e (omega arith) ]

-- how many of these UPSes have no number yet
abbrev new_ones : Numbering → List Ups → ℕ
new_ones before [] = 0
new_ones before (ups ∷ upses) = one (number_of ups.name before) (new_ones before upses) where
  one : Option ℕ → ℕ → ℕ
  one None n = suc n
  one (Some number) n = n

kept_and_new : (before : Numbering) (upses : List Ups) → length (kept_numbers before upses) + new_ones before upses ≡ length upses
kept_and_new before [] = refl
kept_and_new before (ups ∷ upses) = by (number_of ups.name before) refl (kept_and_new before upses) where
  by : (o : Option ℕ) → number_of ups.name before ≡ o → length (kept_numbers before upses) + new_ones before upses ≡ length upses
      → length (kept_numbers before (ups ∷ upses)) + new_ones before (ups ∷ upses) ≡ suc (length upses)
  by None e rest = rw e (omega (arith, rest))
  by (Some n) e rest = rw e (omega (arith, rest))

given_below : (m : ℕ) (before : Numbering) (taken : List ℕ) (upses : List Ups) → AreBelow m before.numbers → length taken + new_ones before upses ≤ m
    → AreBelow m (given_numbers before taken upses)
given_below m before taken [] all few = tt
given_below m before taken (ups ∷ upses) all few = by (number_of ups.name before) refl (λ taken few'. given_below m before taken upses all few') where
  by : (o : Option ℕ) → number_of ups.name before ≡ o
      → ((taken : List ℕ) → length taken + new_ones before upses ≤ m → AreBelow m (given_numbers before taken upses)) → AreBelow m (given_numbers before taken (ups ∷ upses))
  by None e rest =
      let few' : length taken + suc (new_ones before upses) ≤ m = rw e at few in
      let free = free_below (length taken) 0 taken in
      rw e (omega (arith, free, few'), rest (least_free taken ∷ taken) (omega (arith, few')))
  by (Some n) e rest =
      let few' : length taken + new_ones before upses ≤ m = rw e at few in
      rw e (number_below m before ups.name n all e, rest taken few')

pub renumbered_below : (m : ℕ) (before : Numbering) (upses : List Ups) → AreBelow m before.numbers → length upses ≤ m → AreBelow m (renumbered upses before)
renumbered_below m before upses all few = given_below m before (kept_numbers before upses) upses all (omega (arith, few, kept_and_new before upses))

step_below : (step : Step) (m : ℕ) (now : Numbering) → AreBelow m now.numbers → AreBelow (places_after step m) (renumbered_by step now)
step_below step m now all = grind (arith, renumbered_below, are_below_more)

-- Every UPS has a number that is less than there are places.
pub numbers_below : (first : Configuration) (t : List Entry) → AreBelow (places first t) (numbers first t)
numbers_below first [] = below_are (length first.upses)
numbers_below first (e ∷ t) = step_below e.step (places first t) (numbering first t) (numbers_below first t)

-- ---- numbers that no UPS has

past_all : (u : ℕ) (ns : List ℕ) → is_taken u ns ≡ false → position_or_len (λ n. eqb n u) ns ≡ length ns
past_all u [] free = refl
past_all u (n ∷ ns) free =
    elim (cases_Bool (eqb n u)) [
      | inl e ↦ absurd (true≢false (rw e at free))
      | inr e ↦ let rest : is_taken u ns ≡ false = rw e at free in rw e (omega (arith, past_all u ns rest))
    ]

position_none : (u : ℕ) (ns : List ℕ) → is_taken u ns ≡ false → position (λ n. eqb n u) ns ≡ None
position_none u ns free = ap (λ b. if b then Some (position_or_len (λ n. eqb n u) ns) else None) (le-ltb (position_or_len (λ n. eqb n u) ns) (length ns) (omega (arith, past_all u ns free)))

-- No UPS has a number that isn't taken.
pub free_has_none : (u : ℕ) (now : Numbering) → is_taken u now.numbers ≡ false → ups_with u now ≡ None
free_has_none u now free = rw (position_none u now.numbers free) refl

above_is_free : (u : ℕ) (ns : List ℕ) → AreBelow u ns → is_taken u ns ≡ false
above_is_free u [] all = refl
above_is_free u (n ∷ ns) all = rw (ne_eqb n u (λ e. omega (arith, e, all.0))) (above_is_free u ns all.1)

pub no_ups_with : (m u : ℕ) (now : Numbering) → AreBelow m now.numbers → m ≤ u → ups_with u now ≡ None
no_ups_with m u now all le = free_has_none u now (above_is_free u now.numbers (are_below_more m u now.numbers le all))
