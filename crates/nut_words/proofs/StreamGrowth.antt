-- How the lines of a stream grow with any bytes, with a line feed, and with another byte.
use Rattle.std.proofs.Common.{◌≡◌, ◌≢◌, ℕ, zero, suc, ◌<◌, true, eqb, List, [], ◌∷◌, ◌++◌, length, map, get_or, refl, sym, ap, ◌∙◌, arith}
use Rattle.std.proofs.lemmas.List.{append-nil, map-append}
use Rattle.std.proofs.lemmas.Bool.{eqb-true}
use Rattle.nut_words.specs.Lines.{Text, all_but_last, as_line, completed, joined, last_of, lines, lines_after, parts, rest, rest_after, unfinished}
use Rattle.nut_words.proofs.LineLemmas.{behind, is_some_parts, joined-as_line, parts-append, last_of-append, all_but_last-append, parts_of_unbroken, rest_of_unbroken, lines_of_unbroken, rest_of_line, lines_of_line}

completed_behind : (t p : List ℕ) (ps : List (List ℕ)) → map as_line (all_but_last ((t ++ p) ∷ ps)) ≡ completed (as_line t) (p ∷ ps)
completed_behind t p [] = refl
completed_behind t p (u ∷ us) = ap (λ l. l ∷ map as_line (all_but_last (u ∷ us))) (sym (joined-as_line t p))

unfinished_behind : (t p : List ℕ) (ps : List (List ℕ)) → as_line (last_of ((t ++ p) ∷ ps)) ≡ unfinished (as_line t) (p ∷ ps)
unfinished_behind t p [] = sym (joined-as_line t p)
unfinished_behind t p (u ∷ us) = refl

lines_of_parts : (before after : List (List ℕ)) (p : List ℕ) (ps : List (List ℕ)) → after ≡ p ∷ ps → map as_line (all_but_last (all_but_last before ++ behind (last_of before) after)) ≡ map as_line (all_but_last before) ++ completed (as_line (last_of before)) after
lines_of_parts before after p ps e =
    rw e (ap (map as_line) (all_but_last-append (all_but_last before) (last_of before ++ p) ps)
    ∙ map-append as_line (all_but_last before) (all_but_last ((last_of before ++ p) ∷ ps))
    ∙ ap (λ ls. map as_line (all_but_last before) ++ ls) (completed_behind (last_of before) p ps))

rest_of_parts : (before after : List (List ℕ)) (p : List ℕ) (ps : List (List ℕ)) → after ≡ p ∷ ps → as_line (last_of (all_but_last before ++ behind (last_of before) after)) ≡ unfinished (as_line (last_of before)) after
rest_of_parts before after p ps e =
    rw e (ap as_line (last_of-append (all_but_last before) (last_of before ++ p) ps) ∙ unfinished_behind (last_of before) p ps)

-- with any bytes
pub lines-append : (b more : List ℕ) → lines (b ++ more) ≡ lines b ++ lines_after (rest b) more
lines-append b more =
    let some = is_some_parts more in
    ap (λ ps. map as_line (all_but_last ps)) (parts-append b more) ∙ lines_of_parts (parts b) (parts more) some.0 some.1 some.2

pub rest-append : (b more : List ℕ) → rest (b ++ more) ≡ rest_after (rest b) more
rest-append b more =
    let some = is_some_parts more in
    ap (λ ps. as_line (last_of ps)) (parts-append b more) ∙ rest_of_parts (parts b) (parts more) some.0 some.1 some.2

-- with a line feed
pub rest_at_line_feed : (b : List ℕ) → rest (b ++ 10 ∷ []) ≡ Text []
rest_at_line_feed b = rest_of_line b [] refl

pub lines_at_line_feed : (b : List ℕ) → lines (b ++ 10 ∷ []) ≡ lines b ++ rest b ∷ []
lines_at_line_feed b =
    lines_of_line b [] refl
    ∙ ap (λ l. lines b ++ l ∷ []) (joined-as_line (last_of (parts b)) [] ∙ ap as_line (append-nil (last_of (parts b))))

-- with a byte that is no line feed
one_part : (c : ℕ) → c ≢ 10 → parts (c ∷ []) ≡ (c ∷ []) ∷ []
one_part c other = parts_of_unbroken (c ∷ []) no_line_feed where
  no_line_feed : (k : ℕ) → k < length (c ∷ []) → eqb (get_or (c ∷ []) k 0) 10 ≡ true → ⊥
  no_line_feed zero within is = other (eqb-true c 10 is)
  no_line_feed (suc k) within is = absurd (omega arith)

pub rest_within : (b : List ℕ) (c : ℕ) → c ≢ 10 → rest (b ++ c ∷ []) ≡ joined (rest b) (c ∷ [])
rest_within b c other = rest_of_unbroken b (c ∷ []) (one_part c other)

pub lines_within : (b : List ℕ) (c : ℕ) → c ≢ 10 → lines (b ++ c ∷ []) ≡ lines b
lines_within b c other = lines_of_unbroken b (c ∷ []) (one_part c other)
