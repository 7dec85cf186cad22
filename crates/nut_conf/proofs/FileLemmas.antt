-- A file that is read line by line.
use Rattle.std.proofs.Common.{◌≡◌, ℕ, ◌+◌, ◌≤◌, List, [], ◌∷◌, ◌++◌, length, Result, Ok, Err, refl, ap, ◌∙◌, arith}
use Rattle.nut_conf.specs.Faults.{Fails}
use Rattle.nut_conf.specs.Values.{Words}
use Rattle.nut_conf.specs.Files.{LineFault, lines_of, with_line, at_line, read_lines, read_file, IsFaultOf}
use Rattle.nut_conf.specs.declared.fault.FaultKind.{FaultKind}
use Rattle.nut_conf.specs.declared.fault.FaultKind.TheVariants as kinds
use Rattle.nut_conf.specs.declared.limits.TheConstants.{FILE_MAX}

lines-equal : (x y : List Words) → ◌≡◌ {A = Result (List Words) (ℕ × FaultKind)} (Ok x) (Ok y) → x ≡ y
lines-equal x y h = cc

module _ (fault : LineFault) where
  -- A line without a fault is added to those before it.
  pub read_lines-more : (before after : List Words) (n : ℕ) (line : List ℕ) (lines : List (List ℕ)) → with_line fault before line ≡ Ok after
      → read_lines fault before n (line ∷ lines) ≡ read_lines fault after (n + 1) lines
  unfolding read_lines
  read_lines-more before after n line lines h = ap (λ r. at_line n r (λ more. read_lines fault more (n + 1) lines)) h

  -- Such a line is also read at its place after lines that read without a fault.
  pub read_lines-behind : (past before after : List Words) (n : ℕ) (front : List (List ℕ)) (line : List ℕ) → read_lines fault past n front ≡ Ok before → with_line fault before line ≡ Ok after
      → read_lines fault past n (front ++ line ∷ []) ≡ Ok after
  unfolding read_lines
  read_lines-behind past before after n [] line reads h =
      ap (λ r. at_line n r (λ more. Ok more)) (ap (λ p. with_line fault p line) (lines-equal past before reads) ∙ h)
  read_lines-behind past before after n (first ∷ front) line reads h =
      elim (with_line fault past first) as (λ r. with_line fault past first ≡ r → at_line n r (λ more. read_lines fault more (n + 1) front) ≡ Ok before
      → at_line n r (λ more. read_lines fault more (n + 1) (front ++ line ∷ [])) ≡ Ok after) [
        | Ok more ↦ λ is later. read_lines-behind more before after (n + 1) front line later h
        | Err e ↦ λ is later. absurd (cc)
      ] refl reads

  fault_at : (before : List Words) (n : ℕ) (k : FaultKind) (line : List ℕ) (lines : List (List ℕ)) → with_line fault before line ≡ Err k
      → read_lines fault before n (line ∷ lines) ≡ Err (n, k)
  unfolding read_lines
  fault_at before n k line lines h = ap (λ r. at_line n r (λ more. read_lines fault more (n + 1) lines)) h

  -- A fault ends the reading.
  pub read_lines-fault : (before : List Words) (n : ℕ) (k : FaultKind) (line : List ℕ) (lines : List (List ℕ)) → Fails k (with_line fault before line)
      → IsFaultOf n k (read_lines fault before n (line ∷ lines))
  read_lines-fault before n kinds.Memory line lines h = tt
  read_lines-fault before n _ line lines h = fault_at before n _ line lines h

  pub read_lines-done : (before : List Words) (n : ℕ) → read_lines fault before n [] ≡ Ok before
  unfolding read_lines
  read_lines-done before n = refl

  -- A file that isn't too long is read by its lines.
  pub read_file-lines : (bytes : List ℕ) → length bytes ≤ FILE_MAX → read_file fault bytes ≡ read_lines fault [] 1 (lines_of bytes)
  read_file-lines bytes short = grind arith
