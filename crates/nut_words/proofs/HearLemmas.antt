-- How a piece of a stream is heard: front by front, as the lines that each front completes.
use Rattle.std.proofs.Common.{◌≡◌, ℕ, ◌+◌, ◌<◌, ◌≤◌, ◌==◌, true, List, [], ◌∷◌, ◌++◌, length, take, drop, take_all, length-drop, eqb-true, refl, sym, ap, ap₂, subst, ◌∙◌, arith, eqb}
use Rattle.std.proofs.Math.Seq.{take-add, take-append_seam}
use Rattle.std.proofs.lemmas.List.{append_assoc, append_cancel_left, length-append, length-map, take-append-drop}
use Rattle.std.proofs.lemmas.List.Splits.{length-slice_split}
use Rattle.std.proofs.lemmas.List.Sums.{count_by-le-length}
use Rattle.nut_words.specs.Hearing.{StopsAt, heard_all}
use Rattle.nut_words.specs.Lines.{LineText, lines, rest, parts, completed, all_but_last, as_line, lines_after}
use Rattle.nut_words.proofs.StreamGrowth.{lines-append}

pub heard_all-append : {H : Type 0} (heard : LineText → H → H) (ls ms : List LineText) (hearer : H) → heard_all heard (ls ++ ms) hearer ≡ heard_all heard ms (heard_all heard ls hearer)
heard_all-append heard [] ms hearer = refl
heard_all-append heard (l ∷ ls) ms hearer = heard_all-append heard ls ms (heard l hearer)

-- the lines that further bytes of a stream complete
pub lines_more : (b x y : List ℕ) (ls : List LineText) → lines ((b ++ x) ++ y) ≡ lines (b ++ x) ++ ls → lines_after (rest b) (x ++ y) ≡ lines_after (rest b) x ++ ls
lines_more b x y ls brought =
    append_cancel_left (lines b) (lines_after (rest b) (x ++ y)) (lines_after (rest b) x ++ ls) (
    sym (lines-append b (x ++ y)) ∙ ap lines (sym (append_assoc b x y)) ∙ brought ∙ ap (λ front. front ++ ls) (lines-append b x) ∙ append_assoc (lines b) (lines_after (rest b) x) ls
    )

pub lines_cut : (b x y : List ℕ) → lines_after (rest b) (x ++ y) ≡ lines_after (rest b) x ++ lines_after (rest (b ++ x)) y
lines_cut b x y = lines_more b x y (lines_after (rest (b ++ x)) y) (lines-append (b ++ x) y)

-- a front of what is left continues the front before it
front_more : (n used : ℕ) (p left : List ℕ) → left ≡ drop n p → take n p ++ take used left ≡ take (n + used) p
front_more n used p left is = ap (λ l. take n p ++ take used l) is ∙ sym (take-add n used p)

-- the lines of the front, with those that the next part of the piece completed
pub front_lines : (b : List ℕ) (r : LineText) (n used : ℕ) (p left : List ℕ) (ls : List LineText) → r ≡ rest b → left ≡ drop n p
    → lines ((b ++ take n p) ++ take used left) ≡ lines (b ++ take n p) ++ ls → lines_after r (take (n + used) p) ≡ lines_after r (take n p) ++ ls
front_lines b r n used p left ls here is brought =
    ap (λ r. lines_after r (take (n + used) p)) here
    ∙ ap (lines_after (rest b)) (sym (front_more n used p left is))
    ∙ lines_more b (take n p) (take used left) ls brought
    ∙ ap (λ r. lines_after r (take n p) ++ ls) (sym here)

pub front_rest : (b : List ℕ) (n used : ℕ) (p left : List ℕ) (r : LineText) → left ≡ drop n p → r ≡ rest ((b ++ take n p) ++ take used left) → r ≡ rest (b ++ take (n + used) p)
front_rest b n used p left r is h = h ∙ ap rest (append_assoc b (take n p) (take used left) ∙ ap (λ f. b ++ f) (front_more n used p left is))

-- the lines of the whole piece, which begin with those of a front
pub whole_lines : (b : List ℕ) (r : LineText) (n : ℕ) (p : List ℕ) → r ≡ rest b → lines_after r p ≡ lines_after r (take n p) ++ lines_after (rest (b ++ take n p)) (drop n p)
whole_lines b r n p here =
    ap (λ r. lines_after r p) here
    ∙ ap (lines_after (rest b)) (sym (take-append-drop n p))
    ∙ lines_cut b (take n p) (drop n p)
    ∙ ap (λ r. lines_after r (take n p) ++ lines_after (rest (b ++ take n p)) (drop n p)) (sym here)

-- the lines of a piece, at one behind a front
pub parted_at : (b : List ℕ) (r : LineText) (n used : ℕ) (p left : List ℕ) (line : LineText) → r ≡ rest b → left ≡ drop n p
    → lines ((b ++ take n p) ++ take used left) ≡ lines (b ++ take n p) ++ line ∷ []
    → lines_after r p ≡ lines_after r (take n p) ++ line ∷ lines_after (rest (b ++ take (n + used) p)) (drop (n + used) p)
parted_at b r n used p left line here is brought =
    whole_lines b r (n + used) p here
    ∙ ap (λ ls. ls ++ lines_after (rest (b ++ take (n + used) p)) (drop (n + used) p)) (front_lines b r n used p left (line ∷ []) here is brought)
    ∙ append_assoc (lines_after r (take n p)) (line ∷ []) (lines_after (rest (b ++ take (n + used) p)) (drop (n + used) p))

-- there are no more lines than bytes
all_but_few : (t : List ℕ) (ts : List (List ℕ)) → length (all_but_last (t ∷ ts)) ≡ length ts
all_but_few t [] = refl
all_but_few t (u ∷ ts) = omega (arith, all_but_few u ts)

few_completed : (r : LineText) (ts : List (List ℕ)) (n : ℕ) → length ts ≤ n + 1 → length (completed r ts) ≤ n
few_completed r (t ∷ u ∷ ts) n h = omega (arith, length-map (all_but_last (u ∷ ts)) as_line, all_but_few u ts)
few_completed r _ n h = omega arith

pub few_lines : (r : LineText) (x : List ℕ) → length (lines_after r x) ≤ length x
few_lines r x = few_completed r (parts x) (length x) (omega (arith, length-slice_split (λ c. eqb c 10) x, count_by-le-length (λ c. eqb c 10) x))

pub few_lines_front : (r : LineText) (n : ℕ) (x : List ℕ) → length (lines_after r (take n x)) ≤ length x
few_lines_front r n x = omega (arith, few_lines r (take n x), length-append (take n x) (drop n x), ap length (take-append-drop n x))

-- if nothing is left, the front is the whole piece
pub taken_whole : (n : ℕ) (p left : List ℕ) → left ≡ drop n p → (length left == 0) ≡ true → take n p ≡ p
taken_whole n p left is none =
    take_all n p (omega (arith, ap length is, length-drop n p, eqb-true (length left) 0 none))

-- A hearer that stopped had heard the first of the lines.
pub stops_within : {H : Type 0} {heard : LineText → H → H} {Stops : LineText → H → Type 0} {lines : List LineText} {before : H} {done : ℕ} → (at : StopsAt heard Stops lines before done)
    → (done < length lines) × Stops at.line (heard_all heard (take done lines) before)
stops_within {heard = heard} {Stops = Stops} {lines = lines} {before = before} {done = done} at =
    let front : take done lines ≡ at.earlier = ap₂ take at.count at.parted ∙ take-append_seam at.earlier (at.line ∷ at.later) in
    (omega (arith, at.count, ap length at.parted, length-append at.earlier (at.line ∷ at.later)), subst (λ ls. Stops at.line (heard_all heard ls before)) (sym front) at.stops)
