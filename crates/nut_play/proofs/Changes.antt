-- A list after one element was changed.
use Rattle.std.proofs.Common.{◌≡◌, ◌<◌, ℕ, zero, suc, List, [], ◌∷◌, length, map, slice_get, slice_index_or, Some, refl, ap, arith}
use Rattle.nut_play.specs.machine.Next.{changed_at}

pub get-changed : {A : Type 0} (m : ℕ) (change : A → A) (xs : List A) (x : A) → slice_get xs m ≡ Some x → slice_get (changed_at m change xs) m ≡ Some (change x)
get-changed m change [] x is = cc
get-changed zero change (y ∷ xs) x is = let same : y ≡ x = cc in ap (λ z. Some (change z)) same
get-changed (suc m) change (y ∷ xs) x is = get-changed m change xs x is

pub get-other : {A : Type 0} (m n : ℕ) (change : A → A) (xs : List A) → (n ≡ m → ⊥) → slice_get (changed_at m change xs) n ≡ slice_get xs n
get-other m n change [] ne = refl
get-other zero zero change (x ∷ xs) ne = absurd (ne refl)
get-other zero (suc n) change (x ∷ xs) ne = refl
get-other (suc m) zero change (x ∷ xs) ne = refl
get-other (suc m) (suc n) change (x ∷ xs) ne = get-other m n change xs (λ e. ne (ap suc e))

pub index-changed : {A : Type 0} (i : ℕ) (change : A → A) (xs : List A) (d : A) → i < length xs →
    slice_index_or (changed_at i change xs) i d ≡ change (slice_index_or xs i d)
index-changed i change [] d lt = absurd (omega arith)
index-changed zero change (x ∷ xs) d lt = refl
index-changed (suc i) change (x ∷ xs) d lt = index-changed i change xs d (omega arith)

pub index-other : {A : Type 0} (i j : ℕ) (change : A → A) (xs : List A) (d : A) → (j ≡ i → ⊥) →
    slice_index_or (changed_at i change xs) j d ≡ slice_index_or xs j d
index-other i j change [] d ne = refl
index-other zero zero change (x ∷ xs) d ne = absurd (ne refl)
index-other zero (suc j) change (x ∷ xs) d ne = refl
index-other (suc i) zero change (x ∷ xs) d ne = refl
index-other (suc i) (suc j) change (x ∷ xs) d ne = index-other i j change xs d (λ e. ne (ap suc e))

-- what the change leaves unchanged of each element
pub map-changed : {A B : Type 0} (f : A → B) (m : ℕ) (change : A → A) (xs : List A) → ((x : A) → f (change x) ≡ f x) →
    map f (changed_at m change xs) ≡ map f xs
map-changed f m change [] same = refl
map-changed f zero change (x ∷ xs) same = ap (λ y. y ∷ map f xs) (same x)
map-changed f (suc m) change (x ∷ xs) same = ap (λ ys. f x ∷ ys) (map-changed f m change xs same)

pub length-changed : {A : Type 0} (m : ℕ) (change : A → A) (xs : List A) → length (changed_at m change xs) ≡ length xs
length-changed m change [] = refl
length-changed zero change (x ∷ xs) = refl
length-changed (suc m) change (x ∷ xs) = ap suc (length-changed m change xs)
