-- Lines without words change nothing.
use Rattle.std.proofs.Common.{◌≡◌, ℕ, ◌+◌, ◌==◌, List, [], ◌∷◌, ◌++◌, length, if◌then◌else◌, Ok, Err, refl, ap, ◌∙◌}
use Rattle.nut_conf.specs.Faults.{◌>>=◌}
use Rattle.nut_conf.specs.Values.{Words}
use Rattle.nut_conf.specs.Files.{LineFault, words_of, unless, with_line, at_line, read_lines}
use Rattle.nut_conf.specs.laws.Laws.{unnumbered, BlankChangesNothing}

module _ (fault : LineFault) where
  -- the number of the first line doesn't matter
  shifted : (before : List Words) (m n : ℕ) (lines : List (List ℕ)) → unnumbered (read_lines fault before m lines) ≡ unnumbered (read_lines fault before n lines)
  unfolding read_lines
  shifted before m n [] = refl
  shifted before m n (line ∷ lines) =
      elim (with_line fault before line) as (λ r. unnumbered (at_line m r (λ more. read_lines fault more (m + 1) lines)) ≡ unnumbered (at_line n r (λ more. read_lines fault more (n + 1) lines)))
      [ Ok more ↦ shifted more (m + 1) (n + 1) lines | Err k ↦ refl ]

  with_blank : (before : List Words) (blank : List ℕ) → words_of blank ≡ Ok [] → with_line fault before blank ≡ Ok before
  with_blank before blank h = ap (λ r. r >>= (λ ws. if length ws == 0 then Ok before else unless (fault before ws) (before ++ ws ∷ []))) h

  nothing : (front rest : List (List ℕ)) (blank : List ℕ) (before : List Words) (n : ℕ) → words_of blank ≡ Ok []
      → unnumbered (read_lines fault before n (front ++ blank ∷ rest)) ≡ unnumbered (read_lines fault before n (front ++ rest))
  unfolding read_lines
  nothing [] rest blank before n h =
      ap (λ r. unnumbered (at_line n r (λ more. read_lines fault more (n + 1) rest))) (with_blank before blank h) ∙ shifted before (n + 1) n rest
  nothing (line ∷ front) rest blank before n h =
      elim (with_line fault before line) as (λ r. unnumbered (at_line n r (λ more. read_lines fault more (n + 1) (front ++ blank ∷ rest))) ≡ unnumbered (at_line n r (λ more. read_lines fault more (n + 1) (front ++ rest))))
      [ Ok more ↦ nothing front rest blank more (n + 1) h | Err k ↦ refl ]

  pub changes_nothing : BlankChangesNothing fault
  changes_nothing front rest blank h = nothing front rest blank [] 1 h
