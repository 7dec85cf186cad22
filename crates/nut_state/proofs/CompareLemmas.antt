-- Names that begin alike compare as what follows does.
use Rattle.std.proofs.Common.{◌≡◌, ℕ, zero, suc, ◌+◌, ◌*◌, ◌<◌, ◌≤◌, List, [], ◌∷◌, length, min, take, drop, get_or, refl, sym, ap, subst, ◌∙◌, arith}
use Rattle.std.proofs.lemmas.List.{get_or-drop, length-drop}
use Rattle.std.specs.Prelude.{slice_index}
use Rattle.std.specs.Int.{from_be_bytes, w64}
use Rattle.std.specs.Cmp.{nat_cmp_is, ranks}
use Rattle.std.specs.FinMap.{nat_cmp-IsAntisymmetric}
use Rattle.std.specs.Ordering.{nat_cmp, ordering_then, MatchOrdering}
use Rattle.std.specs.declared.cmp.Ordering.{Ordering}
use Rattle.std.specs.declared.cmp.Ordering.TheVariants.{Less, Equal, Greater}
use Rattle.nut_state.specs.Sorted.{name_cmp}

compare_next : (a b : List ℕ) (at : ℕ) → at < length a → at < length b
    → name_cmp (drop at a) (drop at b) ≡ ordering_then (nat_cmp (get_or a at 0) (get_or b at 0)) (name_cmp (drop (at + 1) a) (drop (at + 1) b))
compare_next (x ∷ xs) (y ∷ ys) zero within other = refl
compare_next (x ∷ xs) (y ∷ ys) (suc at) within other =
    let next : suc (at + 1) ≡ suc at + 1 = omega arith in
    subst (λ n. name_cmp (drop at xs) (drop at ys) ≡ ordering_then (nat_cmp (get_or xs at 0) (get_or ys at 0)) (name_cmp (drop n (x ∷ xs)) (drop n (y ∷ ys))))
    next (compare_next xs ys at (omega arith) (omega arith))
compare_next _ _ at within other = absurd (omega arith)

module _ (a b : List ℕ) (at : ℕ) (within : at < length a) (other : at < length b) where
  next : (o : Ordering) → nat_cmp (get_or a at 0) (get_or b at 0) ≡ o
      → name_cmp (drop at a) (drop at b) ≡ ordering_then o (name_cmp (drop (at + 1) a) (drop (at + 1) b))
  next o is = compare_next a b at within other ∙ ap (λ p. ordering_then p (name_cmp (drop (at + 1) a) (drop (at + 1) b))) is

  pub compare_equal : get_or a at 0 ≡ get_or b at 0 → name_cmp (drop at a) (drop at b) ≡ name_cmp (drop (at + 1) a) (drop (at + 1) b)
  compare_equal same = next Equal (sym (nat_cmp_is (get_or a at 0) (get_or b at 0) Equal same))

  decided : (o : Ordering) → nat_cmp (get_or a at 0) (get_or b at 0) ≡ o → (get_or a at 0 ≡ get_or b at 0 → ⊥) → name_cmp (drop at a) (drop at b) ≡ o
  decided Equal is differ = absurd (differ (nat_cmp-IsAntisymmetric (get_or a at 0) (get_or b at 0) is))
  decided k is differ = next k is

  pub compare_unequal : (get_or a at 0 ≡ get_or b at 0 → ⊥) → name_cmp (drop at a) (drop at b) ≡ nat_cmp (get_or a at 0) (get_or b at 0)
  compare_unequal differ = decided (nat_cmp (get_or a at 0) (get_or b at 0)) refl differ

-- ---- eight bytes as a number

-- the number that bytes spell after n, the greatest first
abbrev number : ℕ → List ℕ → ℕ
number n [] = n
number n (b ∷ bs) = number (n * 256 + b) bs

abbrev pub AreBytes : List ℕ → Type 0
AreBytes bytes = (k : ℕ) → slice_index bytes k < 256

pub bytes_behind : (n : ℕ) (bytes : List ℕ) → AreBytes bytes → AreBytes (drop n bytes)
bytes_behind n bytes each k = rw (get_or-drop n bytes k 0) (each (n + k))

eight : (bs : List ℕ) → 8 ≤ length bs → from_be_bytes w64 (take 8 bs) ≡ number 0 (take 8 bs)
eight (a ∷ b ∷ c ∷ d ∷ e ∷ f ∷ g ∷ h ∷ more) long = omega arith
eight _ long = absurd (omega (arith, long))

rises : (n a b : ℕ) (us vs : List ℕ) → n ≤ length us → n ≤ length vs → AreBytes us → a < b → number a (take n us) < number b (take n vs)
rises zero a b us vs p q bytes less = less
rises (suc n) a b [] vs p q bytes less = absurd (omega (arith, p))
rises (suc n) a b (u ∷ us) [] p q bytes less = absurd (omega (arith, q))
rises (suc n) a b (u ∷ us) (v ∷ vs) p q bytes less =
    let small : u < 256 = bytes 0 in
    rises n (a * 256 + u) (b * 256 + v) us vs (omega (arith, p)) (omega (arith, q)) (λ k. bytes (suc k)) (omega (arith, small, less))

in_order : (n a : ℕ) (us vs : List ℕ) → n ≤ length us → n ≤ length vs → AreBytes us → AreBytes vs
    → name_cmp us vs ≡ ordering_then (nat_cmp (number a (take n us)) (number a (take n vs))) (name_cmp (drop n us) (drop n vs))
in_order zero a us vs p q g h = ap (λ o. ordering_then o (name_cmp us vs)) (nat_cmp_is a a Equal refl)
in_order (suc n) a [] vs p q g h = absurd (omega (arith, p))
in_order (suc n) a (u ∷ us) [] p q g h = absurd (omega (arith, q))
in_order (suc n) a (u ∷ us) (v ∷ vs) p q g h =
    by (in_order n (a * 256 + u) us vs (omega (arith, p)) (omega (arith, q)) (λ k. g (suc k)) (λ k. h (suc k))) (nat_cmp u v) refl (ranks u v)
  where
    rest : Ordering
    rest = name_cmp (drop n us) (drop n vs)

    by : name_cmp us vs ≡ ordering_then (nat_cmp (number (a * 256 + u) (take n us)) (number (a * 256 + u) (take n vs))) (name_cmp (drop n us) (drop n vs))
        → (r : Ordering) → nat_cmp u v ≡ r → MatchOrdering r (u < v) (u ≡ v) (v < u)
        → name_cmp (u ∷ us) (v ∷ vs) ≡ ordering_then (nat_cmp (number (a * 256 + u) (take n us)) (number (a * 256 + v) (take n vs))) rest
    by later Less is less =
        let under : u < v = less in
        let t = rises n (a * 256 + u) (a * 256 + v) us vs (omega (arith, p)) (omega (arith, q)) (λ k. g (suc k)) (omega (arith, under)) in
        ap (λ o. ordering_then o (name_cmp us vs)) is ∙ ap (λ o. ordering_then o rest) (nat_cmp_is (number (a * 256 + u) (take n us)) (number (a * 256 + v) (take n vs)) Less t)
    by later Greater is more =
        let over : v < u = more in
        let t = rises n (a * 256 + v) (a * 256 + u) vs us (omega (arith, q)) (omega (arith, p)) (λ k. h (suc k)) (omega (arith, over)) in
        ap (λ o. ordering_then o (name_cmp us vs)) is ∙ ap (λ o. ordering_then o rest) (nat_cmp_is (number (a * 256 + u) (take n us)) (number (a * 256 + v) (take n vs)) Greater t)
    by later Equal is level =
        ap (λ o. ordering_then o (name_cmp us vs)) is
        ∙ later
        ∙ ap (λ z. ordering_then (nat_cmp (number (a * 256 + u) (take n us)) (number (a * 256 + z) (take n vs))) rest) level

at_first : (x y : ℕ) (r o : Ordering) → nat_cmp x y ≡ r → (x ≡ y → ⊥) → ordering_then r o ≡ r
at_first x y Equal o is differ = absurd (differ (nat_cmp-IsAntisymmetric x y is))
at_first x y _ o is differ = refl

-- The first eight bytes of two names were read as numbers.
module _ (a b : List ℕ) (x y : ℕ) (within : 8 ≤ length a) (other : 8 ≤ length b) (bytes : AreBytes a) (others : AreBytes b)
    (reads : x ≡ from_be_bytes w64 (take 8 a)) (likewise : y ≡ from_be_bytes w64 (take 8 b)) where
  as_numbers : name_cmp a b ≡ ordering_then (nat_cmp x y) (name_cmp (drop 8 a) (drop 8 b))
  as_numbers = rw (reads ∙ eight a within, likewise ∙ eight b other) (in_order 8 0 a b within other bytes others)

  pub words_unequal : (x ≡ y → ⊥) → name_cmp a b ≡ nat_cmp x y
  words_unequal differ = as_numbers ∙ at_first x y (nat_cmp x y) (name_cmp (drop 8 a) (drop 8 b)) refl differ

  pub words_equal : x ≡ y → name_cmp a b ≡ name_cmp (drop 8 a) (drop 8 b)
  words_equal same = as_numbers ∙ ap (λ o. ordering_then o (name_cmp (drop 8 a) (drop 8 b))) (sym (nat_cmp_is x y Equal same))

ended : (xs ys : List ℕ) (at m n : ℕ) → m ≡ length xs + at → n ≡ length ys + at → min (length xs) (length ys) ≡ 0
    → MatchOrdering (name_cmp xs ys) (m < n) (m ≡ n) (n < m)
ended [] [] at m n first second end = first ∙ sym second
ended (x ∷ xs) (y ∷ ys) at m n first second end = absurd (omega arith)
ended _ _ at m n first second end = omega arith

pub compare_end : (a b : List ℕ) (at : ℕ) → at ≤ length a → at ≤ length b → min (length a) (length b) ≤ at
    → name_cmp (drop at a) (drop at b) ≡ nat_cmp (length a) (length b)
compare_end a b at within other end =
    nat_cmp_is (length a) (length b) (name_cmp (drop at a) (drop at b))
    (ended (drop at a) (drop at b) at (length a) (length b) (omega (arith, length-drop at a)) (omega (arith, length-drop at b))
    (omega (arith, length-drop at a, length-drop at b)))
