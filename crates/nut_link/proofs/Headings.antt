-- When words don't begin with a heading.
use Rattle.std.proofs.Common.{◌≡◌, ℕ, ◌+◌, ◌<◌, ◌&&◌, false, List, [], ◌∷◌, length, drop, get_or, bytes_eq, refl, sym, ap, ap₂, ◌∙◌, arith}
use Rattle.std.proofs.lemmas.List.{drop_more}
use Rattle.std.proofs.lemmas.Bool.{and_right}
use Rattle.nut_link.specs.Matching.{begins}

-- there are too few
pub begins_short : (heading words : List (List ℕ)) → length words < length heading → false ≡ begins heading words
begins_short [] words short = absurd (omega (arith, short))
begins_short (first ∷ others) [] short = refl
begins_short (first ∷ others) (word ∷ words) short = sym (and_right (bytes_eq first word) (begins others words) (sym (begins_short others words (omega (arith, short)))))

-- one is another
pub begins_other : (heading words : List (List ℕ)) (i : ℕ) (name word : List ℕ) → i < length heading → i < length words → name ≡ get_or heading i name → word ≡ get_or words i []
    → bytes_eq name word ≡ false → false ≡ begins (drop i heading) (drop i words)
begins_other heading words i name word here there is was other =
    sym (ap₂ begins (drop_more heading i name here) (drop_more words i [] there)
    ∙ ap (λ b. b && begins (drop (i + 1) heading) (drop (i + 1) words)) (ap₂ bytes_eq (sym is) (sym was) ∙ other))
