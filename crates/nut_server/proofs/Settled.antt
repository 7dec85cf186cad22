-- The first element that passes a test, found one by one.
use Rattle.std.proofs.Common.{◌≡◌, ℕ, ◌+◌, ◌≤◌, Bool, true, false, List, length, drop, refl, sym, ◌∙◌, ap, Some, None, slice_get}
use Rattle.std.specs.Prelude.{find}
use Rattle.std.proofs.lemmas.List.{drop_all}
use Rattle.nut_server.proofs.Elements.{drop_here}

module _ {X : Type 0} (p : X → Bool) (xs : List X) (i : ℕ) where
  pub find_here : (x : X) → slice_get xs i ≡ Some x → p x ≡ true → find p (drop i xs) ≡ Some x
  find_here x there passes = ap (find p) (drop_here xs i x there) ∙ rw passes refl

  pub find_on : (x : X) → slice_get xs i ≡ Some x → p x ≡ false → find p (drop (i + 1) xs) ≡ find p (drop i xs)
  find_on x there fails = sym (ap (find p) (drop_here xs i x there) ∙ rw fails refl)

  pub find_none : length xs ≤ i → find p (drop i xs) ≡ None
  find_none past = ap (find p) (drop_all i xs past)
