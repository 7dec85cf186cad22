-- How the lines of a stream grow with the next piece of it.
use Rattle.std.proofs.Common.{◌≡◌, ℕ, suc, ◌+◌, ◌<◌, ◌≤◌, Bool, true, false, cond, eqb, List, [], ◌∷◌, ◌++◌, length, map, take, get_or, refl, sym, ap, ◌∙◌, arith}
use Rattle.std.proofs.lemmas.List.{append-nil, map-append, length-append, take_more, take_all, get_or-take, length-take-le}
use Rattle.std.proofs.lemmas.Bool.{eqb-true}
use Rattle.memchr.specs.Find.{Nowhere, NoneBefore, Passes, is_byte}
use Rattle.std.specs.List.{onto_first}
use Rattle.nut_words.specs.Lines.{LineText, Text, as_line, joined, parts, last_of, all_but_last, lines, rest}
use Rattle.nut_words.specs.declared.limits.TheConstants.{LINE_MAX}

-- more bytes after a text that `as_line` has made a line already
pub joined-as_line : (text more : List ℕ) → joined (as_line text) more ≡ as_line (text ++ more)
joined-as_line text more = grind (arith, length-append text more)

-- the parts with a text put before the first
abbrev pub behind : List ℕ → List (List ℕ) → List (List ℕ)
behind t [] = t ∷ []
behind t (p ∷ ps) = (t ++ p) ∷ ps

pub is_some_parts : (xs : List ℕ) → (p : List ℕ) × (ps : List (List ℕ)) × (parts xs ≡ p ∷ ps)
is_some_parts [] = ([], [], refl)
is_some_parts (x ∷ xs) = let later = is_some_parts xs in by_first (eqb x 10) x (parts xs) later.0 later.1 later.2 where
  by_first : (b : Bool) (x : ℕ) (all : List (List ℕ)) (p : List ℕ) (ps : List (List ℕ)) → all ≡ p ∷ ps → (q : List ℕ) × (qs : List (List ℕ)) × (cond b ([] ∷ all) (onto_first x all) ≡ q ∷ qs)
  by_first true x all p ps e = ([], all, refl)
  by_first false x all p ps e = (x ∷ p, ps, ap (onto_first x) e)

step_within : (c : ℕ) (q : List ℕ) (qs : List (List ℕ)) (r : List ℕ) (rs : List (List ℕ)) → onto_first c (all_but_last (q ∷ qs) ++ behind (last_of (q ∷ qs)) (r ∷ rs)) ≡ all_but_last (onto_first c (q ∷ qs)) ++ behind (last_of (onto_first c (q ∷ qs))) (r ∷ rs)
step_within c q [] r rs = refl
step_within c q (u ∷ us) r rs = refl

step_parts : (b : Bool) (c : ℕ) (whole before after : List (List ℕ)) (q : List ℕ) (qs : List (List ℕ)) (r : List ℕ) (rs : List (List ℕ)) → before ≡ q ∷ qs → after ≡ r ∷ rs → whole ≡ all_but_last before ++ behind (last_of before) after → cond b ([] ∷ whole) (onto_first c whole) ≡ all_but_last (cond b ([] ∷ before) (onto_first c before)) ++ behind (last_of (cond b ([] ∷ before) (onto_first c before))) after
step_parts true c whole before after q qs r rs e f h = rw (h, e) refl
step_parts false c whole before after q qs r rs e f h = rw (h, e, f) (step_within c q qs r rs)

behind_nothing : (xs : List (List ℕ)) (r : List ℕ) (rs : List (List ℕ)) → xs ≡ r ∷ rs → xs ≡ behind [] xs
behind_nothing xs r rs e = rw e refl

pub parts-append : (a b : List ℕ) → parts (a ++ b) ≡ all_but_last (parts a) ++ behind (last_of (parts a)) (parts b)
parts-append [] b = let some = is_some_parts b in behind_nothing (parts b) some.0 some.1 some.2
parts-append (c ∷ cs) b =
    let before = is_some_parts cs in
    let after = is_some_parts b in
    step_parts (eqb c 10) c (parts (cs ++ b)) (parts cs) (parts b) before.0 before.1 after.0 after.1 before.2 after.2 (parts-append cs b)

pub last_of-append : (xs : List (List ℕ)) (y : List ℕ) (ys : List (List ℕ)) → last_of (xs ++ y ∷ ys) ≡ last_of (y ∷ ys)
last_of-append (x ∷ u ∷ us) y ys = last_of-append (u ∷ us) y ys
last_of-append _ y ys = refl

pub all_but_last-append : (xs : List (List ℕ)) (y : List ℕ) (ys : List (List ℕ)) → all_but_last (xs ++ y ∷ ys) ≡ xs ++ all_but_last (y ∷ ys)
all_but_last-append (x ∷ u ∷ us) y ys = ap (λ zs. x ∷ zs) (all_but_last-append (u ∷ us) y ys)
all_but_last-append _ y ys = refl

-- A byte that is no line feed belongs to the part that follows it.
pub goes_on : (b : Bool) (x : ℕ) (xs : List ℕ) (all : List (List ℕ)) → (b ≡ true → ⊥) → all ≡ xs ∷ [] → cond b ([] ∷ all) (onto_first x all) ≡ (x ∷ xs) ∷ []
goes_on true x xs all never e = absurd (never refl)
goes_on false x xs all never e = ap (onto_first x) e

-- A text without a line feed is one part.
pub parts_of_unbroken : (xs : List ℕ) → ((k : ℕ) → k < length xs → eqb (get_or xs k 0) 10 ≡ true → ⊥) → parts xs ≡ xs ∷ []
parts_of_unbroken [] h = refl
parts_of_unbroken (x ∷ xs) h = goes_on (eqb x 10) x xs (parts xs) (h 0 (omega arith)) (parts_of_unbroken xs (λ k l. h (suc k) (omega arith)))

-- what a piece without a line feed adds to the stream
pub rest_of_unbroken : (b p : List ℕ) → parts p ≡ p ∷ [] → rest (b ++ p) ≡ joined (rest b) p
rest_of_unbroken b p e =
    let whole : parts (b ++ p) ≡ all_but_last (parts b) ++ (last_of (parts b) ++ p) ∷ [] = rw e at (parts-append b p) in
    ap (λ ps. as_line (last_of ps)) whole ∙ ap as_line (last_of-append (all_but_last (parts b)) (last_of (parts b) ++ p) []) ∙ sym (joined-as_line (last_of (parts b)) p)

pub lines_of_unbroken : (b p : List ℕ) → parts p ≡ p ∷ [] → lines (b ++ p) ≡ lines b
lines_of_unbroken b p e =
    let whole : parts (b ++ p) ≡ all_but_last (parts b) ++ (last_of (parts b) ++ p) ∷ [] = rw e at (parts-append b p) in
    ap (λ ps. map as_line (all_but_last ps)) whole ∙ ap (map as_line) (all_but_last-append (all_but_last (parts b)) (last_of (parts b) ++ p) [] ∙ append-nil (all_but_last (parts b)))

parts_of_line : (t : List ℕ) → parts t ≡ t ∷ [] → parts (t ++ 10 ∷ []) ≡ t ∷ [] ∷ []
parts_of_line t e = (rw e at (parts-append t (10 ∷ []))) ∙ ap (λ u. u ∷ [] ∷ []) (append-nil t)

-- what a text and a line feed add to the stream
parts_with_line : (b t : List ℕ) → parts t ≡ t ∷ [] → parts (b ++ (t ++ 10 ∷ [])) ≡ all_but_last (parts b) ++ (last_of (parts b) ++ t) ∷ [] ∷ []
parts_with_line b t e = rw (parts_of_line t e) at (parts-append b (t ++ 10 ∷ []))

pub rest_of_line : (b t : List ℕ) → parts t ≡ t ∷ [] → rest (b ++ (t ++ 10 ∷ [])) ≡ Text []
rest_of_line b t e = ap (λ ps. as_line (last_of ps)) (parts_with_line b t e) ∙ ap as_line (last_of-append (all_but_last (parts b)) (last_of (parts b) ++ t) ([] ∷ []))

pub lines_of_line : (b t : List ℕ) → parts t ≡ t ∷ [] → lines (b ++ (t ++ 10 ∷ [])) ≡ lines b ++ joined (rest b) t ∷ []
lines_of_line b t e =
    ap (λ ps. map as_line (all_but_last ps)) (parts_with_line b t e)
    ∙ ap (map as_line) (all_but_last-append (all_but_last (parts b)) (last_of (parts b) ++ t) ([] ∷ []))
    ∙ map-append as_line (all_but_last (parts b)) ((last_of (parts b) ++ t) ∷ [])
    ∙ ap (λ x. lines b ++ x ∷ []) (sym (joined-as_line (last_of (parts b)) t))

-- The first line feed of p is at k.
pub record FeedAt (p : List ℕ) (k : ℕ) : Type 0 where
  pub within : k < length p
  pub front : take (k + 1) p ≡ take k p ++ 10 ∷ []
  pub unbroken : parts (take k p) ≡ take k p ∷ []

pub parts_of_all : (p : List ℕ) → Nowhere (Passes (is_byte 10) p) 0 (length p) → parts p ≡ p ∷ []
parts_of_all p none = parts_of_unbroken p (λ k l. none k (omega arith) l)

pub FeedAt-found : (p : List ℕ) (k : ℕ) → NoneBefore (Passes (is_byte 10) p) 0 (length p) k → Passes (is_byte 10) p k → FeedAt p k
FeedAt-found p k before here = record {
  within = before.high;
  front = take_more p k 0 before.high ∙ ap (λ c. take k p ++ c ∷ []) (eqb-true _ _ here);
  unbroken = parts_of_unbroken (take k p) (λ j l is. before.before j (omega arith) (omega (arith, length-take-le k p (omega arith))) (sym (ap (λ c. eqb c 10) (get_or-take k p j 0 (omega (arith, length-take-le k p (omega arith))))) ∙ is));
}

-- the rest and the lines after a piece without a line feed
pub rest_kept : (old new : LineText) (p : List ℕ) → parts p ≡ p ∷ [] → new ≡ joined old p → (b : List ℕ) → old ≡ rest b → new ≡ rest (b ++ take (length p) p)
rest_kept old new p whole is b e = is ∙ ap (λ x. joined x p) e ∙ sym (rest_of_unbroken b p whole) ∙ ap (λ q. rest (b ++ q)) (sym (take_all (length p) p (omega arith)))

pub lines_kept : (p : List ℕ) → parts p ≡ p ∷ [] → (b : List ℕ) → lines (b ++ take (length p) p) ≡ lines b ++ []
lines_kept p whole b = ap (λ q. lines (b ++ q)) (take_all (length p) p (omega arith)) ∙ lines_of_unbroken b p whole ∙ sym (append-nil (lines b))

-- the rest and the lines after the front of a piece up to its first line feed
pub rest_ended : (p : List ℕ) (k : ℕ) → FeedAt p k → (b : List ℕ) → Text [] ≡ rest (b ++ take (k + 1) p)
rest_ended p k at b = sym (ap (λ q. rest (b ++ q)) at.front ∙ rest_of_line b (take k p) at.unbroken)

pub lines_ended : (old line : LineText) (p : List ℕ) (k : ℕ) → FeedAt p k → line ≡ joined old (take k p) → (b : List ℕ) → old ≡ rest b → lines (b ++ take (k + 1) p) ≡ lines b ++ line ∷ []
lines_ended old line p k at is b e =
    ap (λ q. lines (b ++ q)) at.front ∙ lines_of_line b (take k p) at.unbroken ∙ ap (λ x. lines b ++ x ∷ []) (sym (is ∙ ap (λ x. joined x (take k p)) e))

-- a line of which nothing came before
pub joined_text : (text : List ℕ) → length text ≤ LINE_MAX → joined (Text []) text ≡ Text text
joined_text text fits = grind arith

-- a line that lies in one piece
pub joined_nothing : (p : List ℕ) (k : ℕ) → FeedAt p k → k ≤ LINE_MAX → Text (take k p) ≡ joined (Text []) (take k p)
joined_nothing p k at fits = grind (arith, length-take-le k p (omega (arith, at.within)))
