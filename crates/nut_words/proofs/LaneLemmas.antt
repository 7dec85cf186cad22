-- From the mask of a load to the bytes that pass a test.
use Rattle.std.proofs.Common.{◌≡◌, ℕ, ◌+◌, ◌%◌, ◌^◌, ◌<◌, ◌≤◌, Bool, true, not, ◌||◌, List, map, length, get_or, Fits, w8, sym, ap, ap₂, ◌∙◌, arith}
use Rattle.std.proofs.lemmas.Bool.{agree_below, agree_below_at}
use Rattle.std.proofs.lemmas.Simd.{first_set_mask_l, length-chunk, map-map, mask_l-mod, run_in_chunk_fails, run_in_chunk_le, zip2-map}
use Rattle.std.proofs.lemmas.List.{length-map}
use Rattle.std.specs.Int.{trailing_zeros, w64}
use Rattle.std.specs.List.{prefix_len}
use Rattle.std.specs.Prelude.{◌==◌, if◌then◌else◌}
use lib.Lanes.{chunk, mask_l, top, zip2}

-- the place of the lowest bit that is set, or n
abbrev pub first_set : ℕ → ℕ → ℕ
first_set mask n = if mask == 0 then n else trailing_zeros w64 mask

-- an operation on two vectors that were computed lane by lane from v
pub joined : (h : ℕ → ℕ → ℕ) (f g : ℕ → ℕ) (v : List ℕ) {a b : List ℕ} → a ≡ map f v → b ≡ map g v → zip2 h a b ≡ map (λ x. h (f x) (g x)) v
joined h f g v p q = ap₂ (zip2 h) p q ∙ zip2-map h f g v

-- A load of n bytes from i on was computed lane by lane, and r lanes come before the first that is marked.
module _ (q : ℕ → Bool) (bytes : List ℕ) (i n r : ℕ) (z : List ℕ) (room : i + n ≤ length bytes) (few : n ≤ 64)
    (fits : (k : ℕ) → Fits w8 (get_or bytes k 0)) (f : ℕ → ℕ) (lanes : z ≡ map f (chunk i n bytes))
    (found : r ≡ first_set (mask_l (map (top 7) z) % 2 ^ 64) n) where
  abbrev marked : ℕ → Bool
  marked x = top 7 (f x)

  counted : r ≡ prefix_len (λ x. not (marked x)) (chunk i n bytes)
  counted =
      let v = chunk i n bytes in
      let long = length-chunk i n bytes room in
      let mask = ap (λ l. mask_l l % 2 ^ 64) (ap (map (top 7)) lanes ∙ map-map (top 7) f v) ∙ mask_l-mod (map marked v) 64 (omega (arith, length-map v marked, long)) in
      found ∙ ap (λ m. first_set m n) mask ∙ first_set_mask_l marked v n long few

  -- each byte whose lane isn't marked passes q
  pub run_passes : agree_below (λ x. marked x || q x) (λ _. true) 256 ≡ true → (r ≤ n) × ((k : ℕ) → i ≤ k → k < i + r → q (get_or bytes k 0) ≡ true)
  run_passes all = (
    run_in_chunk_le marked bytes i n r 0 room counted,
    λ k from to.
        sym (ap (λ b. b || q (get_or bytes k 0)) (run_in_chunk_fails marked bytes i n r 0 room counted k from to))
        ∙ agree_below_at (λ x. marked x || q x) (λ _. true) 256 (get_or bytes k 0) all (fits k).fits,
  )
