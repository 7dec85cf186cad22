-- No two UPSes have the same name, so the one with a name is the first with it.
use Rattle.std.proofs.Common.{◌≡◌, ℕ, zero, suc, ◌<◌, true, false, List, [], ◌∷◌, map, length, Option, Some, None, slice_get, refl, ap, subst, ◌∙◌, arith}
use Rattle.std.specs.List.{AllByRecursion, IsDistinct, position_or_len}
use Rattle.std.specs.Option.{option_map}
use Rattle.std.specs.Str.{bytes_eq}
use Rattle.std.proofs.lemmas.Bool.{lt-ltb}
use Rattle.std.proofs.lemmas.Map.Keys.{IsDistinct-head, IsDistinct-tail}
use Rattle.std.proofs.lemmas.Option.{slice_get-map}
use Rattle.std.proofs.lemmas.Slice.Eq.{bytes_eq-Decides}
use Rattle.nut_server_spec.specs.Configuration.{Ups, number_of_ups}

named_else : (name : List ℕ) (upses : List Ups) (i : ℕ) (ups : Ups) → AllByRecursion (λ other. bytes_eq name other ≡ false) (map (λ u. u.name) upses)
    → slice_get upses i ≡ Some ups → bytes_eq name ups.name ≡ false
named_else name [] i ups all there = absurd (cc)
named_else name (u ∷ upses) zero ups all there = let same : u ≡ ups = cc in subst (λ u. bytes_eq name u.name ≡ false) same all.0
named_else name (u ∷ upses) (suc i) ups all there = named_else name upses i ups all.1 there

first_named : (upses : List Ups) (i : ℕ) (ups : Ups) → IsDistinct bytes_eq (map (λ u. u.name) upses) → slice_get upses i ≡ Some ups
    → (position_or_len (λ u. bytes_eq u.name ups.name) upses ≡ i) × (i < length upses)
first_named [] i ups distinct there = absurd (cc)
first_named (u ∷ upses) zero ups distinct there =
    let same : u ≡ ups = cc in
    let here : bytes_eq u.name ups.name ≡ true = (bytes_eq-Decides u.name ups.name).1 (ap (λ u. u.name) same) in
    (rw here refl, omega arith)
first_named (u ∷ upses) (suc i) ups distinct there =
    let later = first_named upses i ups (IsDistinct-tail bytes_eq u.name (map (λ u. u.name) upses) distinct) there in
    let other : bytes_eq u.name ups.name ≡ false = named_else u.name upses i ups (IsDistinct-head bytes_eq u.name (map (λ u. u.name) upses) distinct) there in
    (rw other (omega (arith, later.0)), omega (arith, later.1))

pub number_at : (upses : List Ups) (i : ℕ) (name : List ℕ) → IsDistinct bytes_eq (map (λ u. u.name) upses) → Some name ≡ slice_get (map (λ u. u.name) upses) i
    → Some i ≡ number_of_ups name upses
number_at upses i name distinct there = at_ups (slice_get upses i) refl (there ∙ slice_get-map (λ u. u.name) upses i) where
  at_ups : (found : Option Ups) → slice_get upses i ≡ found → Some name ≡ option_map (λ u. u.name) found → Some i ≡ number_of_ups name upses
  at_ups None here named = absurd (cc)
  at_ups (Some ups) here named =
      let is : ups.name ≡ name = cc in
      let it = first_named upses i ups distinct here in
      subst (λ name. Some i ≡ number_of_ups name upses) is (rw (it.0, lt-ltb i (length upses) it.1) refl)
