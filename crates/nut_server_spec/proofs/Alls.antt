-- If something holds of each element of a list, something follows for each element made from it.
use Rattle.std.proofs.Common.{◌≡◌, suc, Bool, List, [], ◌∷◌, ◌++◌, map, reverse, sym, subst, arith, inl, inr}
use Rattle.std.specs.Prelude.{filter, All}
use Rattle.std.specs.List.{AllByRecursion}
use Rattle.std.proofs.lemmas.Bool.{cases_Bool}
use Rattle.std.proofs.lemmas.List.{reverse-append}

module _ {X : Type 0} where
  pub all_append : (P : X → Type 0) (xs ys : List X) → AllByRecursion P xs → AllByRecursion P ys → AllByRecursion P (xs ++ ys)
  all_append P [] ys first second = second
  all_append P (x ∷ xs) ys first second = (first.0, all_append P xs ys first.1 second)

  pub all_filter : (P : X → Type 0) (p : X → Bool) (xs : List X) → AllByRecursion P xs → AllByRecursion P (filter p xs)
  all_filter P p [] all = tt
  all_filter P p (x ∷ xs) all =
      elim (cases_Bool (p x)) [
        | inl e ↦ rw e (all.0, all_filter P p xs all.1)
        | inr e ↦ rw e (all_filter P p xs all.1)
      ]

  pub all_reverse : (P : X → Type 0) (xs : List X) → AllByRecursion P xs → AllByRecursion P (reverse xs)
  all_reverse P [] all = tt
  all_reverse P (x ∷ xs) all =
      let turned : reverse xs ++ x ∷ [] ≡ reverse (x ∷ xs) = sym (reverse-append (x ∷ []) xs) in
      subst (AllByRecursion P) turned (all_append P (reverse xs) (x ∷ []) (all_reverse P xs all.1) (all.0, tt))

  pub all_weaker : (P Q : X → Type 0) (xs : List X) → ((x : X) → P x → Q x) → AllByRecursion P xs → AllByRecursion Q xs
  all_weaker P Q [] weaker all = tt
  all_weaker P Q (x ∷ xs) weaker all = (weaker x all.0, all_weaker P Q xs weaker all.1)

  -- if it holds at each place
  pub all_places : (P : X → Type 0) (xs : List X) → All P xs → AllByRecursion P xs
  all_places P [] all = tt
  all_places P (x ∷ xs) all = (all 0 x (omega arith), all_places P xs (λ k d lt. all (suc k) d (omega arith)))

pub all_map : {X Y : Type 0} (P : Y → Type 0) (f : X → Y) (xs : List X) → ((x : X) → P (f x)) → AllByRecursion P (map f xs)
all_map P f [] each = tt
all_map P f (x ∷ xs) each = (each x, all_map P f xs each)
