-- The place of the first `%s` in a text.
use Rattle.std.proofs.Common.{◌≡◌, ℕ, zero, suc, ◌+◌, ◌<◌, ◌≤◌, true, false, List, [], ◌∷◌, drop, length, refl, sym, ap, ◌∙◌, Option, Some, None, arith, length-drop}
use Rattle.std.specs.Prelude.{if◌then◌else◌}
use Rattle.std.specs.Option.{option_map}
use Rattle.nut_monitor.specs.Texts.{is_mark, place_of}
use Rattle.std.proofs.lemmas.Bool.{false≢true}

mark_here : (t : List ℕ) → is_mark t ≡ true → place_of t ≡ Some 0
mark_here [] h = absurd (false≢true h)
mark_here (c ∷ t) h = ap (λ b. if b then Some 0 else option_map suc (place_of t)) h

mark_long : (t : List ℕ) → is_mark t ≡ true → 2 ≤ length t
mark_long (c ∷ d ∷ t) h = omega arith
mark_long _ h = absurd (false≢true h)

place_drop : (i : ℕ) (t : List ℕ) → i < length t → is_mark (drop i t) ≡ false → place_of (drop i t) ≡ option_map suc (place_of (drop (suc i) t))
place_drop i [] lt h = absurd (omega arith)
place_drop zero (c ∷ t) lt h = ap (λ b. if b then Some 0 else option_map suc (place_of t)) h
place_drop (suc i) (c ∷ t) lt h = place_drop i t (omega arith) h

further : (i : ℕ) (o : Option ℕ) → option_map (λ n. i + n) (option_map suc o) ≡ option_map (λ n. (i + 1) + n) o
further i None = refl
further i (Some n) = let e : i + suc n ≡ (i + 1) + n = omega arith in ap Some e

pub place_next : (i : ℕ) (t : List ℕ) → i < length t → is_mark (drop i t) ≡ false → place_of t ≡ option_map (λ n. i + n) (place_of (drop i t)) → place_of t ≡ option_map (λ n. (i + 1) + n) (place_of (drop (i + 1) t))
place_next i t lt h is =
    let e : suc i ≡ i + 1 = omega arith in
    is ∙ ap (option_map (λ n. i + n)) (place_drop i t lt h) ∙ further i (place_of (drop (suc i) t)) ∙ ap (λ k. option_map (λ n. (i + 1) + n) (place_of (drop k t))) e

pub place_found : (i : ℕ) (t : List ℕ) → is_mark (drop i t) ≡ true → place_of t ≡ option_map (λ n. i + n) (place_of (drop i t)) → Some i ≡ place_of t
place_found i t h is = let e : i + 0 ≡ i = omega arith in sym (is ∙ ap (option_map (λ n. i + n)) (mark_here (drop i t) h) ∙ ap Some e)

pub mark_within : (i : ℕ) (t : List ℕ) → i < length t → is_mark (drop i t) ≡ true → i + 2 ≤ length t
mark_within i t lt h = omega (arith, lt, length-drop i t, mark_long (drop i t) h)

place_start : (o : Option ℕ) → o ≡ option_map (λ n. 0 + n) o
place_start None = refl
place_start (Some n) = let e : n ≡ 0 + n = omega arith in ap Some e

pub place_first : (t : List ℕ) → place_of t ≡ option_map (λ n. 0 + n) (place_of (drop 0 t))
place_first t = place_start (place_of t)

drop_whole : (i : ℕ) (t : List ℕ) → length t ≤ i → drop i t ≡ []
drop_whole zero [] le = refl
drop_whole (suc i) [] le = refl
drop_whole zero (c ∷ t) le = absurd (omega arith)
drop_whole (suc i) (c ∷ t) le = drop_whole i t (omega arith)

pub place_none : (i : ℕ) (t : List ℕ) → length t ≤ i → place_of t ≡ option_map (λ n. i + n) (place_of (drop i t)) → None ≡ place_of t
place_none i t le is = sym (is ∙ ap (λ x. option_map (λ n. i + n) (place_of x)) (drop_whole i t le))
