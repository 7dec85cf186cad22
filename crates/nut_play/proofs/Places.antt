-- The element at a place of a list, and changing it.
use Rattle.std.proofs.Common.{◌≡◌, ◌<◌, ℕ, zero, suc, List, [], ◌∷◌, length, map, slice_get, slice_set, slice_index_or, Some, refl, sym, ◌∙◌, ap, arith}
use Rattle.nut_play.specs.machine.Next.{changed_at}

-- reading an element and writing its change back changes the list there
pub changed-written : {A : Type 0} (i : ℕ) (change : A → A) (xs : List A) (x y : A) → i < length xs → x ≡ slice_index_or xs i x → y ≡ change x → slice_set xs i y ≡ changed_at i change xs
changed-written i change [] x y lt is new = absurd (omega arith)
changed-written zero change (z ∷ xs) x y lt is new = ap (λ u. u ∷ xs) (new ∙ ap change is)
changed-written (suc i) change (z ∷ xs) x y lt is new = ap (λ us. z ∷ us) (changed-written i change xs x y (omega arith) is new)

-- reading an element, whatever the default is
pub read-at : {A : Type 0} (i : ℕ) (xs : List A) (x d : A) → i < length xs → x ≡ slice_index_or xs i x → slice_index_or xs i d ≡ x
read-at i [] x d lt is = absurd (omega arith)
read-at zero (z ∷ xs) x d lt is = sym is
read-at (suc i) (z ∷ xs) x d lt is = read-at i xs x d (omega arith) is

pub get-at : {A : Type 0} (i : ℕ) (xs : List A) (x : A) → i < length xs → x ≡ slice_index_or xs i x → slice_get xs i ≡ Some x
get-at i [] x lt is = absurd (omega arith)
get-at zero (z ∷ xs) x lt is = ap (λ u. Some u) (sym is)
get-at (suc i) (z ∷ xs) x lt is = get-at i xs x (omega arith) is

-- a constant list, by way of another list of the same length
pub each-same : {A B C : Type 0} (d : C) (f : A → B) (xs : List A) → map (λ x. d) xs ≡ map (λ y. d) (map f xs)
each-same d f [] = refl
each-same d f (x ∷ xs) = ap (λ ys. d ∷ ys) (each-same d f xs)
