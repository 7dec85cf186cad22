-- The flags of the words of a status, and of one word more.
use Rattle.std.proofs.Common.{◌≡◌, ℕ, Bool, true, false, List, [], ◌∷◌, ◌++◌, ◌||◌, refl, ap, ◌∙◌}
use Rattle.std.specs.List.{list_any}
use Rattle.std.specs.Str.{bytes_eq}
use Rattle.std.specs.Prelude.{codes}
use Rattle.std.proofs.lemmas.List.Folds.{list_any-append}
use Rattle.nut_monitor_spec.specs.Query.{flags_of}
use Rattle.nut_monitor.specs.inside.Sound.{with_word}

or_false : (b : Bool) → (b || false) ≡ b
or_false true = refl
or_false false = refl

any_more : (p : List ℕ → Bool) (ws : List (List ℕ)) (w : List ℕ) → list_any p (ws ++ w ∷ []) ≡ (list_any p ws || p w)
any_more p ws w = list_any-append p ws (w ∷ []) ∙ ap (λ b. list_any p ws || b) (or_false (p w))

-- the flags of some words and one more
pub flags_of-more : (ws : List (List ℕ)) (w : List ℕ) → flags_of (ws ++ w ∷ []) ≡ with_word w (flags_of ws)
flags_of-more ws w =
    rw (any_more (bytes_eq (codes "OL")) ws w, any_more (bytes_eq (codes "OB")) ws w, any_more (bytes_eq (codes "LB")) ws w, any_more (bytes_eq (codes "FSD")) ws w, any_more (bytes_eq (codes "RB")) ws w, any_more (bytes_eq (codes "CAL")) ws w) refl
