-- The flags of words, and of one word more.
use Rattle.std.proofs.Common.{◌≡◌, ℕ, Bool, true, false, List, [], ◌∷◌, ◌++◌, ◌||◌, refl, ap, ◌∙◌}
use Rattle.std.specs.List.{list_all, list_any}
use Rattle.std.specs.Str.{bytes_eq}
use Rattle.std.specs.Prelude.{codes}
use Rattle.std.proofs.lemmas.List.Folds.{list_all-append, list_any-append}
use Rattle.nut_conf.specs.Values.{Words}
use Rattle.nut_conf.specs.Notices.{flags_in, with_flag, is_flag}

or_false : (b : Bool) → (b || false) ≡ b
or_false true = refl
or_false false = refl

any_more : (p : List ℕ → Bool) (ws : Words) (w : List ℕ) → list_any p (ws ++ w ∷ []) ≡ (list_any p ws || p w)
any_more p ws w = list_any-append p ws (w ∷ []) ∙ ap (λ b. list_any p ws || b) (or_false (p w))

-- the flags of these words and one more
pub flags_in-more : (ws : Words) (w : List ℕ) → flags_in (ws ++ w ∷ []) ≡ with_flag w (flags_in ws)
flags_in-more ws w =
    rw (any_more (bytes_eq (codes "SYSLOG")) ws w, any_more (bytes_eq (codes "WALL")) ws w, any_more (bytes_eq (codes "EXEC")) ws w, any_more (bytes_eq (codes "IGNORE")) ws w) refl

-- known words and one more that is known
pub known_more : (ws : Words) (w : List ℕ) → list_all is_flag ws ≡ true → is_flag w ≡ true → list_all is_flag (ws ++ w ∷ []) ≡ true
known_more ws w h g = list_all-append is_flag ws (w ∷ []) ∙ rw (h, g) refl
