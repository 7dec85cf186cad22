-- The row of a table that has a given word.
use Rattle.std.proofs.Common.{◌≡◌, ℕ, Bool, true, false, List, [], ◌∷◌, ◌||◌, map, Some, cond, refl, ap, ◌∙◌}
use Rattle.std.specs.Prelude.{MatchOption}
use Rattle.std.specs.List.{find, list_any}
use Rattle.std.specs.Option.{option_map}
use Rattle.std.specs.Str.{bytes_eq}
use Rattle.std.proofs.lemmas.Slice.Eq.{bytes_eq-Decides}

-- The row that was found has the word, or no row has it.
pub row_of_word : {D : Type 0} (word_of : D → List ℕ) (word : List ℕ) (rows : List D)
    → MatchOption (find (λ d. bytes_eq word (word_of d)) rows) (list_any (bytes_eq word) (map word_of rows) ≡ false) (λ d. word ≡ word_of d)
row_of_word word_of word [] = refl
row_of_word {D} word_of word (d ∷ ds) = by_test (bytes_eq word (word_of d)) refl (row_of_word word_of word ds) where
  by_test : (b : Bool) → bytes_eq word (word_of d) ≡ b
      → MatchOption (find (λ d. bytes_eq word (word_of d)) ds) (list_any (bytes_eq word) (map word_of ds) ≡ false) (λ d. word ≡ word_of d)
      → MatchOption (cond b (Some d) (find (λ d. bytes_eq word (word_of d)) ds)) ((b || list_any (bytes_eq word) (map word_of ds)) ≡ false) (λ d. word ≡ word_of d)
  by_test true same others = (bytes_eq-Decides word (word_of d)).0 same
  by_test false other others = others

-- Where rows have the words of directives, and these, the first row with a word has the first directive with it.
pub first_with : {R D : Type 0} (rows : List R) (ds : List D) (name : R → List ℕ) (value : R → D) (word_of : D → List ℕ) (word : List ℕ)
    → map {B = List ℕ × D} (λ r. (name r, value r)) rows ≡ map (λ d. (word_of d, d)) ds
    → option_map value (find (λ r. bytes_eq word (name r)) rows) ≡ find (λ d. bytes_eq word (word_of d)) ds
first_with [] [] name value word_of word same = refl
first_with [] (d ∷ ds) name value word_of word same = absurd (cc)
first_with (r ∷ rows) [] name value word_of word same = absurd (cc)
first_with {R} {D} (r ∷ rows) (d ∷ ds) name value word_of word same =
    let first : ◌≡◌ {A = List ℕ × D} (name r, value r) (word_of d, d) = cc in
    let rest : map {B = List ℕ × D} (λ r. (name r, value r)) rows ≡ map (λ d. (word_of d, d)) ds = cc in
    elim (bytes_eq word (name r)) as (λ b. option_map value (cond b (Some r) (find (λ r. bytes_eq word (name r)) rows)) ≡ cond b (Some d) (find (λ d. bytes_eq word (word_of d)) ds))
    [ true ↦ ap (λ (p : List ℕ × D). Some p.1) first | false ↦ first_with rows ds name value word_of word rest ]
    ∙ ap (λ (p : List ℕ × D). cond (bytes_eq word p.0) (Some d) (find (λ d. bytes_eq word (word_of d)) ds)) first
