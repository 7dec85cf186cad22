-- What is distinct by one part of it has distinct parts.
use Rattle.std.proofs.Common.{◌≡◌, Bool, false, List, [], ◌∷◌, map}
use Rattle.std.specs.List.{AllByRecursion, IsDistinct}

module _ {X Y : Type 0} (part : X → Y) (same : Y → Y → Bool) where
  others : (x : X) (xs : List X) → AllByRecursion (λ y. same (part x) (part y) ≡ false) xs → AllByRecursion (λ y. same (part x) y ≡ false) (map part xs)
  others x [] none = tt
  others x (y ∷ ys) differ = (differ.0, others x ys differ.1)

  pub distinct_parts : (xs : List X) → IsDistinct (λ x y. same (part x) (part y)) xs → IsDistinct same (map part xs)
  unfolding IsDistinct
  distinct_parts [] none = tt
  distinct_parts (x ∷ xs) apart = (others x xs apart.0, distinct_parts xs apart.1)
