-- A list whose first elements were changed in place, each by its number.
use Rattle.std.proofs.Common.{◌≡◌, ℕ, zero, suc, ◌+◌, ◌<◌, ◌≤◌, List, [], ◌∷◌, ◌++◌, length, get_or, refl, sym, ap, ap₂, ◌∙◌, arith, add-one, map}
use Rattle.std.proofs.Math.ListN.{set}
use Rattle.nut_server_spec.specs.Content.{Supply, unheard}
use Rattle.nut_server_spec.specs.Numbering.{Fate, Kept}
use Rattle.nut_server_spec.specs.machine.Machine.{changed_from, fated}

module _ {A : Type 0} (change : ℕ → A → A) where
  -- the list with n elements changed, whose numbers begin with k
  abbrev pub met : ℕ → ℕ → List A → List A
  met zero k xs = xs
  met (suc n) k [] = []
  met (suc n) k (x ∷ xs) = change k x ∷ met n (k + 1) xs

  -- the next element is still as it was
  met_next : (n k : ℕ) (xs : List A) (d : A) → get_or (met n k xs) n d ≡ get_or xs n d
  met_next zero k xs d = refl
  met_next (suc n) k [] d = refl
  met_next (suc n) k (x ∷ xs) d = met_next n (k + 1) xs d

  -- and is changed next
  met_more : (n k : ℕ) (xs : List A) (d v : A) → n < length xs → v ≡ change (k + n) (get_or xs n d) → set (met n k xs) n v ≡ met (suc n) k xs
  met_more zero k (x ∷ xs) d v lt is = ap (λ y. y ∷ xs) (is ∙ ap (λ m. change m x) (let none : k + 0 ≡ k = omega arith in none))
  met_more (suc n) k (x ∷ xs) d v lt is =
      ap (λ ys. change k x ∷ ys) (met_more n (k + 1) xs d v (omega arith) (is ∙ ap (λ m. change m (get_or xs n d)) (let next : k + suc n ≡ (k + 1) + n = omega arith in next)))
  met_more n k [] d v lt is = absurd (omega arith)

  -- one more element of a list is changed
  pub met_step : (now' xs : List A) (n : ℕ) (d v : A) → n < length xs → now' ≡ met n 0 xs → v ≡ change n (get_or now' n d) → set now' n v ≡ met (n + 1) 0 xs
  met_step now' xs n d v lt so_far is =
      ap (λ ys. set ys n v) so_far
      ∙ met_more n 0 xs d v lt (is ∙ ap (change n) (ap (λ ys. get_or ys n d) so_far ∙ met_next n 0 xs d) ∙ ap (λ m. change m (get_or xs n d)) (let none : n ≡ 0 + n = omega arith in none))
      ∙ ap (λ m. met m 0 xs) (sym (add-one n))

-- all of them
pub met_all : (change : ℕ → Supply → Supply) (n k : ℕ) (ds : List Supply) → length ds ≤ n → met change n k ds ≡ changed_from k change ds
met_all change zero k [] le = refl
met_all change zero k (d ∷ ds) le = absurd (omega arith)
met_all change (suc n) k [] le = refl
met_all change (suc n) k (d ∷ ds) le = ap (λ es. change k d ∷ es) (met_all change n (k + 1) ds (omega arith))

-- a change that doesn't depend on the number
abbrev pub swept : {A : Type 0} → (A → A) → ℕ → List A → List A
swept f n xs = met (λ k. f) n 0 xs

pub swept_all : {A : Type 0} (f : A → A) (n k : ℕ) (xs : List A) → length xs ≤ n → met (λ k. f) n k xs ≡ map f xs
swept_all f zero k [] le = refl
swept_all f zero k (x ∷ xs) le = absurd (omega arith)
swept_all f (suc n) k [] le = refl
swept_all f (suc n) k (x ∷ xs) le = ap (λ ys. f x ∷ ys) (swept_all f n (k + 1) xs (omega arith))

-- A change that leaves what is new as it is changes only what was there.
pub changed_new : (change : ℕ → Supply → Supply) (k : ℕ) (ds : List Supply) (ns : List ℕ) → ((u : ℕ) → change u unheard ≡ unheard)
    → changed_from k change (ds ++ map (λ u. unheard) ns) ≡ changed_from k change ds ++ map (λ u. unheard) ns
changed_new change k (d ∷ ds) ns stays = ap (λ es. change k d ∷ es) (changed_new change (k + 1) ds ns stays)
changed_new change k [] [] stays = refl
changed_new change k [] (n ∷ ns) stays = ap₂ (λ d es. d ∷ es) (stays k) (changed_new change (k + 1) [] ns stays)

-- Whatever its fate, a UPS of which nothing is known stays so.
pub unheard_stays : (fate : Fate) → fated fate unheard ≡ unheard
unheard_stays Kept = refl
unheard_stays fate = refl
