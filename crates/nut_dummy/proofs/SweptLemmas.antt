-- A list whose first elements were changed in place, one after the other.
use Rattle.std.proofs.Common.{◌≡◌, ℕ, zero, suc, ◌+◌, ◌<◌, ◌≤◌, List, [], ◌∷◌, length, get_or, refl, sym, ap, ◌∙◌, arith, add-one}
use Rattle.std.specs.Prelude.{map}
use Rattle.std.proofs.Math.ListN.{set}

module _ {A : Type 0} (f : A → A) where
  abbrev pub swept : ℕ → List A → List A
  swept zero xs = xs
  swept (suc n) [] = []
  swept (suc n) (x ∷ xs) = f x ∷ swept n xs

  -- the next element is still as it was
  pub swept-next : (n : ℕ) (xs : List A) (d : A) → get_or (swept n xs) n d ≡ get_or xs n d
  swept-next (suc n) (x ∷ xs) d = swept-next n xs d
  swept-next _ _ d = refl

  -- and is changed next
  pub swept-more : (n : ℕ) (xs : List A) (d v : A) → n < length xs → v ≡ f (get_or xs n d) → set (swept n xs) n v ≡ swept (suc n) xs
  swept-more zero [] d v h is = absurd (omega arith)
  swept-more zero (x ∷ xs) d v h is = ap (λ y. y ∷ xs) is
  swept-more (suc n) [] d v h is = absurd (omega arith)
  swept-more (suc n) (x ∷ xs) d v h is = ap (λ ys. f x ∷ ys) (swept-more n xs d v (omega arith) is)

  pub swept-all : (n : ℕ) (xs : List A) → length xs ≤ n → swept n xs ≡ map f xs
  swept-all zero [] h = refl
  swept-all zero (x ∷ xs) h = absurd (omega arith)
  swept-all (suc n) [] h = refl
  swept-all (suc n) (x ∷ xs) h = ap (λ ys. f x ∷ ys) (swept-all n xs (omega arith))

  -- the same of a list that equals the swept one
  pub swept-step : (now xs : List A) (n : ℕ) (d v : A) → n < length xs → now ≡ swept n xs → v ≡ f (get_or now n d) → set now n v ≡ swept (n + 1) xs
  swept-step now xs n d v h so_far is =
      ap (λ ys. set ys n v) so_far
      ∙ swept-more n xs d v h (is ∙ ap f (ap (λ ys. get_or ys n d) so_far ∙ swept-next n xs d))
      ∙ ap (λ k. swept k xs) (sym (add-one n))
