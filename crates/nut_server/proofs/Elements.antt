-- The element at a place of a list.
use Rattle.std.proofs.Common.{◌≡◌, ℕ, zero, suc, ◌+◌, ◌<◌, List, [], ◌∷◌, ◌++◌, length, take, drop, refl, ◌∙◌, ap, arith, Some, slice_get}
use Rattle.std.proofs.lemmas.List.{drop_more, take_more}
use Rattle.std.proofs.lemmas.Option.{get_or_from_slice_get, slice_get_within}

module _ {X : Type 0} where
  pub some_there : (xs : List X) (i : ℕ) → i < length xs → (x : X) × (slice_get xs i ≡ Some x)
  some_there [] i lt = absurd (omega arith)
  some_there (x ∷ xs) zero lt = (x, refl)
  some_there (x ∷ xs) (suc i) lt = some_there xs i (omega arith)

  module _ (xs : List X) (i : ℕ) (x : X) (there : slice_get xs i ≡ Some x) where
    pub take_next : take (i + 1) xs ≡ take i xs ++ x ∷ []
    take_next = take_more xs i x (slice_get_within xs i x there) ∙ ap (λ y. take i xs ++ y ∷ []) (get_or_from_slice_get xs i x x there)

    pub drop_here : drop i xs ≡ x ∷ drop (i + 1) xs
    drop_here = drop_more xs i x (slice_get_within xs i x there) ∙ ap (λ y. y ∷ drop (i + 1) xs) (get_or_from_slice_get xs i x x there)
