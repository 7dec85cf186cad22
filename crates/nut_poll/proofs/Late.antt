-- Who is noted as late.
use Rattle.std.proofs.Common.{◌≡◌, ℕ, Bool, true, false, ◌||◌, ◌==◌, List, [], ◌∷◌, refl, sym, ap, ◌∙◌}
use Rattle.std.specs.Prelude.{nat_eq}
use Rattle.std.specs.List.{list_any}
use Rattle.std.proofs.lemmas.Bool.{eqb-true, eq-eqb}

or_false : (b : Bool) → b ≡ (b || false)
or_false true = refl
or_false false = refl

or_true : (b c : Bool) → b ≡ true → (c || b) ≡ true
or_true b true is = refl
or_true b false is = is

stays_true : (b : Bool) → b ≡ true → b ≡ (b || true)
stays_true true is = refl
stays_true false is = is

-- The two tests for a number in a list agree.
turned : (i : ℕ) (noted : List ℕ) → list_any (λ x. nat_eq x i) noted ≡ true → list_any (λ x. nat_eq i x) noted ≡ true
turned i [] is = is
turned i (k ∷ noted) is = elim (nat_eq k i) as (λ b. nat_eq k i ≡ b → (b || list_any (λ x. nat_eq x i) noted) ≡ true → (nat_eq i k || list_any (λ x. nat_eq i x) noted) ≡ true) [
  | true ↦ λ same _. ap (λ b. b || list_any (λ x. nat_eq i x) noted) (eq-eqb i k (sym (eqb-true k i same)))
  | false ↦ λ _ rest. or_true _ (nat_eq i k) (turned i noted rest)
] refl is

-- A number that is noted needs no second note.
pub noted_once : (i j : ℕ) (noted : List ℕ) → list_any (λ x. nat_eq x i) noted ≡ true →
    list_any (λ x. nat_eq j x) noted ≡ (list_any (λ x. nat_eq j x) noted || (j == i))
noted_once i j noted is = elim (j == i) as (λ b. (j == i) ≡ b → list_any (λ x. nat_eq j x) noted ≡ (list_any (λ x. nat_eq j x) noted || b)) [
  | true ↦ λ same. stays_true _ (ap (λ k. list_any (λ x. nat_eq k x) noted) (eqb-true j i same) ∙ turned i noted is)
  | false ↦ λ _. or_false _
] refl
