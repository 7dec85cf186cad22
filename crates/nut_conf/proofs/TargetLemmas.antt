-- The most bytes in a target.
use Rattle.std.proofs.Common.{◌≡◌, ℕ, ◌+◌, ◌-◌, ◌<◌, ◌≤◌, ◌==◌, List, length, take, drop, Option, None, Some, Result, Ok, Err, refl, ap, arith, length-drop}
use Rattle.std.specs.List.{list_any, position}
use Rattle.std.specs.Option.{option_map, option_map_or}
use Rattle.std.specs.Prelude.{codes}
use Rattle.std.proofs.lemmas.List.{length-take}
use Rattle.std.proofs.lemmas.List.Quantifiers.{position-Some}
use Rattle.std.proofs.lemmas.Bool.Decides.{nat_tests}
use Rattle.std.proofs.lemmas.Bool.{cond_both}
use Rattle.nut_conf.specs.Faults.{◌>>=◌}
use Rattle.nut_words.specs.declared.limits.TheConstants.{UPS_NAME_MAX}
use Rattle.nut_conf.specs.Values.{name, number}
use Rattle.nut_conf.specs.Target.{or_fault, host, located, target}
use Rattle.nut_conf.specs.Upsmon.{monitored_target}
use Rattle.nut_conf.specs.declared.fault.FaultKind.TheVariants.{BadName}
use Rattle.nut_conf.specs.declared.target.NameFault.TheVariants.{BadUps, BadPort}
use Rattle.nut_conf.specs.declared.limits.TheConstants.{HOST_MAX, TARGET_MAX}

-- What was read in a first step, and that this step has no fault.
first_part : {A B E : Type 0} (r : Result A E) (f : A → Result B E) (y : B) → (r >>= f) ≡ Ok y → (x : A) × (r ≡ Ok x) × (f x ≡ Ok y)
first_part {A} {B} {E} r f y is = elim r as (λ (q : Result A E). r ≡ q → (q >>= f) ≡ Ok y → (x : A) × (r ≡ Ok x) × (f x ≡ Ok y)) [
  | Ok x ↦ λ here later. (x, here, later)
  | Err e ↦ λ here later. absurd (cc)
] refl is

no_fault : {X E F : Type 0} (f : F) (r : Result X E) (x : X) → or_fault f r ≡ Ok x → r ≡ Ok x
no_fault f (Ok y) x is = let e : y ≡ x = cc in ap (λ z. Ok z) e
no_fault f (Err e) x is = absurd (cc)

name-short : (most : ℕ) (bytes n : List ℕ) → name most bytes ≡ Ok n → length bytes ≤ most
name-short most bytes n is = grind (arith, nat_tests)

number-short : (least most : ℕ) (bytes : List ℕ) (n : ℕ) → number least most bytes ≡ Ok n → length bytes ≤ 9
number-short least most bytes n is = grind (arith, nat_tests)

host-short : (bytes h : List ℕ) → host bytes ≡ Ok h → length bytes ≤ HOST_MAX
host-short bytes h is = grind (arith, nat_tests)

-- the numbers of bytes before and after the byte c
length-parts : (c : ℕ) (bytes : List ℕ) (i : ℕ) → position (λ b. b == c) bytes ≡ Some i → (i < length bytes) × (length (take i bytes) ≡ i) × (length (drop (i + 1) bytes) ≡ length bytes - (i + 1))
length-parts c bytes i is =
    let within : i < length bytes = (position-Some (λ b. b == c) bytes i 0 is).0 in
    (within, omega (arith, length-take i bytes), length-drop (i + 1) bytes)

located-short : (bytes : List ℕ) (l : List ℕ × ℕ) → located bytes ≡ Ok l → length bytes ≤ 74
located-short bytes l is = by_place (position (λ b. b == 58) bytes) refl is where
  by_place : (o : Option ℕ) → position (λ b. b == 58) bytes ≡ o
      → option_map_or (λ (p : List ℕ × List ℕ). host p.0 >>= (λ h. or_fault BadPort (number 1 65535 p.1) >>= (λ n. Ok (h, n)))) (option_map (λ i. (take i bytes, drop (i + 1) bytes)) o) (host bytes >>= (λ h. Ok (h, 3493))) ≡ Ok l
      → length bytes ≤ 74
  by_place None here is =
      let h = first_part (host bytes) (λ h. Ok (h, 3493)) l is in
      omega (arith, host-short bytes h.0 h.1)
  by_place (Some i) here is =
      let lengths = length-parts 58 bytes i here in
      let h = first_part (host (take i bytes)) (λ h. or_fault BadPort (number 1 65535 (drop (i + 1) bytes)) >>= (λ n. Ok (h, n))) l is in
      let n = first_part (or_fault BadPort (number 1 65535 (drop (i + 1) bytes))) (λ n. Ok (h.0, n)) l h.2 in
      let read = no_fault BadPort (number 1 65535 (drop (i + 1) bytes)) n.0 n.1 in
      omega (arith, lengths.0, lengths.1, lengths.2, host-short (take i bytes) h.0 h.1, number-short 1 65535 (drop (i + 1) bytes) n.0 read)

target-short : (bytes : List ℕ) (t : List ℕ × List ℕ × ℕ) → target bytes ≡ Ok t → length bytes ≤ TARGET_MAX
target-short bytes t is = by_place (position (λ b. b == 64) bytes) refl is where
  by_place : (o : Option ℕ) → position (λ b. b == 64) bytes ≡ o
      → option_map_or (λ (p : List ℕ × List ℕ). or_fault BadUps (name UPS_NAME_MAX p.0) >>= (λ u. located p.1 >>= (λ l. Ok (u, l.0, l.1)))) (option_map (λ i. (take i bytes, drop (i + 1) bytes)) o) (or_fault BadUps (name UPS_NAME_MAX bytes) >>= (λ u. Ok (u, codes "localhost", 3493))) ≡ Ok t
      → length bytes ≤ TARGET_MAX
  by_place None here is =
      let u = first_part (or_fault BadUps (name UPS_NAME_MAX bytes)) (λ u. Ok (u, codes "localhost", 3493)) t is in
      omega (arith, name-short UPS_NAME_MAX bytes u.0 (no_fault BadUps (name UPS_NAME_MAX bytes) u.0 u.1))
  by_place (Some i) here is =
      let lengths = length-parts 64 bytes i here in
      let u = first_part (or_fault BadUps (name UPS_NAME_MAX (take i bytes))) (λ u. located (drop (i + 1) bytes) >>= (λ l. Ok (u, l.0, l.1))) t is in
      let l = first_part (located (drop (i + 1) bytes)) (λ l. Ok (u.0, l.0, l.1)) t u.2 in
      omega (arith, lengths.0, lengths.1, lengths.2, name-short UPS_NAME_MAX (take i bytes) u.0 (no_fault BadUps (name UPS_NAME_MAX (take i bytes)) u.0 u.1), located-short (drop (i + 1) bytes) l.0 l.1)

-- A target that names its host has at most 107 bytes.
pub monitored-short : (bytes : List ℕ) (t : List ℕ × List ℕ × ℕ) → monitored_target bytes ≡ Ok t → length bytes ≤ TARGET_MAX
monitored-short bytes t is =
    cond_both (list_any (λ c. c == 64) bytes) (or_fault BadName (target bytes)) (Err BadName) (λ r. r ≡ Ok t → length bytes ≤ TARGET_MAX)
    (λ _ e. target-short bytes t (no_fault BadName (target bytes) t e)) (λ _ e. absurd (cc)) is
