-- The lines that a piece completes after the bytes b, byte by byte, and those that its fronts complete.
use Rattle.std.proofs.Common.{◌≡◌, ℕ, zero, suc, true, false, eqb, List, [], ◌∷◌, ◌++◌, length, take, refl, sym, ◌∙◌, ap, inl, inr}
use Rattle.std.proofs.lemmas.Bool.{cases_Bool, eqb-true}
use Rattle.std.proofs.lemmas.List.{append-nil}
use Rattle.nut_words.specs.Lines.{Text, as_line, joined, last_of, lines_after, parts, rest}
use Rattle.nut_words.proofs.HearLemmas.{lines_cut}
use Rattle.nut_words.proofs.LineLemmas.{joined-as_line}
use Rattle.nut_words.proofs.StreamGrowth.{rest_at_line_feed}
use Rattle.nut_server_spec.specs.Acceptance.{front, line_feeds}

-- a line feed completes the unfinished line, and leaves none
joined_rest : (b : List ℕ) → joined (rest b) [] ≡ rest b
joined_rest b = let t = last_of (parts b) in joined-as_line t [] ∙ ap as_line (append-nil t)

pub lines_feed : (b : List ℕ) (c : ℕ) (p : List ℕ) → eqb c 10 ≡ true → lines_after (rest b) (c ∷ p) ≡ rest b ∷ lines_after (rest (b ++ c ∷ [])) p
lines_feed b c p e = lines_cut b (c ∷ []) p ∙ rw e (ap (λ r. r ∷ lines_after (rest (b ++ c ∷ [])) p) (joined_rest b))

pub rest_feed : (b : List ℕ) (c : ℕ) → eqb c 10 ≡ true → rest (b ++ c ∷ []) ≡ Text []
rest_feed b c e = ap (λ c. rest (b ++ c ∷ [])) (eqb-true c 10 e) ∙ rest_at_line_feed b

-- any other byte completes none
pub lines_other : (b : List ℕ) (c : ℕ) (p : List ℕ) → eqb c 10 ≡ false → lines_after (rest b) (c ∷ p) ≡ lines_after (rest (b ++ c ∷ [])) p
lines_other b c p e = lines_cut b (c ∷ []) p ∙ rw e refl

-- a piece completes as many lines as it has line feeds
pub lines_counted : (b p : List ℕ) → length (lines_after (rest b) p) ≡ line_feeds p
lines_counted b [] = refl
lines_counted b (c ∷ p) =
    elim (cases_Bool (eqb c 10)) [
      | inl e ↦ ap length (lines_feed b c p e) ∙ ap suc (lines_counted (b ++ c ∷ []) p) ∙ rw e refl
      | inr e ↦ ap length (lines_other b c p e) ∙ lines_counted (b ++ c ∷ []) p ∙ rw e refl
    ]

-- the lines that a front completes are the first of the piece's
pub lines_of_front : (k : ℕ) (b p : List ℕ) → lines_after (rest b) (front k p) ≡ take k (lines_after (rest b) p)
lines_of_front zero b p = refl
lines_of_front (suc k) b [] = refl
lines_of_front (suc k) b (c ∷ p) =
    let next = b ++ c ∷ [] in
    elim (cases_Bool (eqb c 10)) [
      | inl e ↦
          let cut : front (suc k) (c ∷ p) ≡ c ∷ front k p = rw e refl in
          ap (lines_after (rest b)) cut ∙ lines_feed b c (front k p) e ∙ ap (λ ls. rest b ∷ ls) (lines_of_front k next p) ∙ ap (take (suc k)) (sym (lines_feed b c p e))
      | inr e ↦
          let cut : front (suc k) (c ∷ p) ≡ c ∷ front (suc k) p = rw e refl in
          ap (lines_after (rest b)) cut ∙ lines_other b c (front (suc k) p) e ∙ lines_of_front (suc k) next p ∙ ap (take (suc k)) (sym (lines_other b c p e))
    ]
