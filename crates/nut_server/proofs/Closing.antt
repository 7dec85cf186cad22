-- Connections that are closed by their places, the last first.
use Rattle.std.proofs.Common.{◌≡◌, ℕ, zero, suc, ◌+◌, ◌<◌, ◌≤◌, Bool, true, false, List, [], ◌∷◌, ◌++◌, filter, length, take, drop, refl, sym, ◌∙◌, ap, arith, Some, slice_get}
use Rattle.std.specs.List.{remove}
use Rattle.std.proofs.lemmas.Bool.{eqb-true}
use Rattle.std.proofs.lemmas.List.{append-nil, map-append}
use Rattle.std.proofs.lemmas.List.Elements.{filter-append}
use Rattle.nut_server_spec.specs.Content.{Session}
use Rattle.nut_server_spec.specs.laws.Laws.{IsRising}
use Rattle.nut_server_spec.specs.machine.Machine.{without}
use Rattle.nut_server.specs.inside.Inside.{numbers_of}
use Rattle.nut_server.specs.inside.Place.{IsPlace}
use Rattle.nut_server.proofs.Elements.{take_next}
use Rattle.nut_server.proofs.Entries.{without_none}
use Rattle.nut_server.proofs.Orderly.{none_below}

-- No other connection has the number of the one at the place.
pub without_place : (c : ℕ) (ks : List Session) (at : ℕ) → IsRising (numbers_of ks) → IsPlace c ks at → without c ks ≡ remove ks at
without_place c [] at rising place = absurd place
without_place c (k ∷ ks) zero rising place =
    let same : k.number ≡ c = eqb-true k.number c place in
    rw place (without_none c ks (none_below c k.number ks rising.0 (omega (arith, same))))
without_place c (k ∷ ks) (suc at) rising place = rw place.0 (ap (λ ks. k ∷ ks) (without_place c ks at rising.1 place.1))

-- ---- a list whose elements from a place on were filtered

module _ {A : Type 0} (p : A → Bool) where
  abbrev pub filtered_from : ℕ → List A → List A
  filtered_from n xs = take n xs ++ filter p (drop n xs)

  -- the element before the place is still there
  pub filtered_read : (n : ℕ) (xs : List A) → n < length xs → slice_get (filtered_from (suc n) xs) n ≡ slice_get xs n
  filtered_read n [] lt = absurd (omega arith)
  filtered_read zero (x ∷ xs) lt = refl
  filtered_read (suc n) (x ∷ xs) lt = filtered_read n xs (omega arith)

  -- it stays
  pub filtered_kept : (n : ℕ) (xs : List A) (x : A) → slice_get xs n ≡ Some x → p x ≡ true → filtered_from (suc n) xs ≡ filtered_from n xs
  filtered_kept n [] x there passes = absurd (cc)
  filtered_kept zero (y ∷ xs) x there passes = let same : y ≡ x = cc in rw (same, passes) refl
  filtered_kept (suc n) (y ∷ xs) x there passes = ap (λ ys. y ∷ ys) (filtered_kept n xs x there passes)

  -- it is removed
  pub filtered_gone : (n : ℕ) (xs : List A) (x : A) → slice_get xs n ≡ Some x → p x ≡ false → remove (filtered_from (suc n) xs) n ≡ filtered_from n xs
  filtered_gone n [] x there fails = absurd (cc)
  filtered_gone zero (y ∷ xs) x there fails = let same : y ≡ x = cc in rw (same, fails) refl
  filtered_gone (suc n) (y ∷ xs) x there fails = ap (λ ys. y ∷ ys) (filtered_gone n xs x there fails)

  -- the element at the place k, of a list that is filtered behind it, is removed
  pub removed_there : (k m : ℕ) (old now' : List A) (x : A) → m ≡ suc k → m ≤ length old → now' ≡ filtered_from m old → slice_get now' k ≡ Some x → p x ≡ false
      → (k ≤ length old) × (remove now' k ≡ filtered_from k old)
  removed_there k m old now' x is le so_far there fails =
      let before : now' ≡ filtered_from (suc k) old = so_far ∙ ap (λ n. filtered_from n old) is in
      let read : slice_get old k ≡ Some x = sym (filtered_read k old (omega (arith, is, le))) ∙ ap (λ xs. slice_get xs k) (sym before) ∙ there in
      (omega (arith, is, le), ap (λ xs. remove xs k) before ∙ filtered_gone k old x read fails)

  -- it stays
  pub kept_there : (k m : ℕ) (old now' : List A) (x : A) → m ≡ suc k → m ≤ length old → now' ≡ filtered_from m old → slice_get now' k ≡ Some x → p x ≡ true
      → (k ≤ length old) × (now' ≡ filtered_from k old)
  kept_there k m old now' x is le so_far there passes =
      let before : now' ≡ filtered_from (suc k) old = so_far ∙ ap (λ n. filtered_from n old) is in
      let read : slice_get old k ≡ Some x = sym (filtered_read k old (omega (arith, is, le))) ∙ ap (λ xs. slice_get xs k) (sym before) ∙ there in
      (omega (arith, is, le), before ∙ filtered_kept k old x read passes)

-- ---- the numbers of those that pass, one by one

module _ (p : Session → Bool) (i : ℕ) (ks : List Session) (k : Session) (ns : List ℕ) (there : slice_get ks i ≡ Some k) where
  numbered : ns ≡ numbers_of (filter p (take i ks)) → numbers_of (filter p (take (i + 1) ks)) ≡ ns ++ numbers_of (filter p (k ∷ []))
  numbered is =
      ap (λ js. numbers_of (filter p js)) (take_next ks i k there) ∙ ap numbers_of (filter-append p (take i ks) (k ∷ []))
      ∙ map-append (λ (k : Session). k.number) (filter p (take i ks)) (filter p (k ∷ [])) ∙ ap (λ ms. ms ++ numbers_of (filter p (k ∷ []))) (sym is)

  pub numbered_more : p k ≡ true → ns ≡ numbers_of (filter p (take i ks)) → ns ++ k.number ∷ [] ≡ numbers_of (filter p (take (i + 1) ks))
  numbered_more passes is = sym (numbered is ∙ rw passes refl)

  pub numbered_same : p k ≡ false → ns ≡ numbers_of (filter p (take i ks)) → ns ≡ numbers_of (filter p (take (i + 1) ks))
  numbered_same fails is = sym (numbered is ∙ rw fails (append-nil ns))
