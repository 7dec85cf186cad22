-- Bytes cut into parts: where the first part ends, and the parts that are left.
use Rattle.std.proofs.Common.{◌≡◌, ℕ, ◌+◌, ◌<◌, ◌≤◌, Bool, true, false, List, [], ◌∷◌, ◌++◌, length, get_or, take, drop, sym, ap, ◌∙◌, subst, add-one, arith, eqb, drop-cons, All, Option, None, Some, IfSome}
use Rattle.std.specs.Borrow.{Bor}
use Rattle.std.specs.List.{slice_split}
use Rattle.std.specs.Option.{option_map_or}
use Rattle.std.proofs.lemmas.List.{take-append-drop, get_or-take, length-take}
use Rattle.std.proofs.lemmas.List.Elements.{All-from_get_or}
use Rattle.std.proofs.lemmas.List.Splits.{slice_split_at, slice_split_none}
use Rattle.std.proofs.lemmas.Bool.{false_from_ne_true}

-- Bytes are cut at a byte c.
module _ (c : ℕ) where
  abbrev is_end : ℕ → Bool
  is_end b = eqb b c

  none_in_front : (bytes : List ℕ) (n : ℕ) → n ≤ length bytes → ((k : ℕ) → k < n → is_end (get_or bytes k 0) ≡ true → ⊥) → All (λ x. is_end x ≡ false) (take n bytes)
  none_in_front bytes n within none = All-from_get_or (λ x. is_end x ≡ false) (take n bytes) 0 (λ i lt.
      let below : i < n = omega (arith, length-take n bytes, lt) in
      false_from_ne_true _ (λ h. none i below (subst (λ v. is_end v ≡ true) (get_or-take n bytes i 0 below) h)))

  -- The first part ends before the first c.
  pub cut-first : (bytes : List ℕ) (at : ℕ) → at < length bytes → ((k : ℕ) → k < at → is_end (get_or bytes k 0) ≡ true → ⊥) → is_end (get_or bytes at 0) ≡ true
      → slice_split is_end bytes ≡ take at bytes ∷ slice_split is_end (drop (at + 1) bytes)
  cut-first bytes at within none here =
      let split : take at bytes ++ get_or bytes at 0 ∷ drop (at + 1) bytes ≡ bytes = rw (add-one, ← drop-cons bytes at 0 within) (take-append-drop at bytes) in
      ap (slice_split is_end) (sym split) ∙ slice_split_at is_end (take at bytes) (get_or bytes at 0) (drop (at + 1) bytes) (none_in_front bytes at (omega arith) none) here

  -- Without a c there is one part.
  pub cut-only : (bytes : List ℕ) → ((k : ℕ) → k < length bytes → is_end (get_or bytes k 0) ≡ true → ⊥) → slice_split is_end bytes ≡ bytes ∷ []
  cut-only bytes none = slice_split_none is_end bytes (All-from_get_or (λ x. is_end x ≡ false) bytes 0 (λ i lt. false_from_ne_true _ (none i lt)))

-- the parts that are left
abbrev pub pending : ℕ → Option (Bor (List ℕ)) → List (List ℕ)
pending c rest = option_map_or (λ r. slice_split (λ b. eqb b c) r.now) rest []

-- a bound on the number of these parts
abbrev pub left : Option (Bor (List ℕ)) → ℕ
left rest = option_map_or (λ r. length r.now + 1) rest 0

pub left-shorter : (rest : Option (Bor (List ℕ))) (n : ℕ) → IfSome rest (λ r. length r.now < n) → left rest ≤ n
left-shorter None n h = omega arith
left-shorter (Some r) n h = omega (arith, h)
