use Rattle.std.proofs.Common.{◌≡◌, ℕ, ◌+◌, ◌<◌, true, eqb, List, [], ◌∷◌, ◌++◌, length, take, drop, get_or, refl, sym, ap, ◌∙◌, arith}
use Rattle.std.proofs.lemmas.List.{append_assoc, length-append, length-take-le, take-append-drop, take_rest}
use Rattle.nut_words.proofs.LineLemmas.{FeedAt, FeedAt-found, joined_text, lines_of_line}
use Rattle.nut_words.proofs.cutter.first_line.Goals as goal

-- the line feed behind a text
at_seam : (text after : List ℕ) → get_or (text ++ 10 ∷ after) (length text) 0 ≡ 10
at_seam [] after = refl
at_seam (c ∷ text) after = at_seam text after

feeds_there : (piece text after : List ℕ) → piece ≡ text ++ 10 ∷ after → (length text < length piece) × (eqb (get_or piece (length text) 0) 10 ≡ true)
feeds_there piece text after is = rw (is, at_seam text after) (omega (arith, length-append text (10 ∷ after)), refl)

pub returns-clause-line : goal.returns-clause-line
returns-clause-line c =
    let p = c.args.piece.now in
    let k = c.in_ok-at.at in
    let at : FeedAt p k = FeedAt-found p k c.in_ok-at.ensures.0 c.in_ok-at.ensures.1 in
    rw (take_rest p (k + 1))
    (record {
      parted = sym (take-append-drop (k + 1) p) ∙ ap (λ front. front ++ drop (k + 1) p) at.front ∙ append_assoc (take k p) (10 ∷ []) (drop (k + 1) p);
      whole = lines_of_line [] (take k p) at.unbroken ∙ ap (λ line. line ∷ []) (joined_text (take k p) (omega (arith, c.if-at-gt-LINE_MAX.false, length-take-le k p (omega (arith, at.within)))));
    })

pub returns-then-at-gt-LINE_MAX-clause-taken : goal.returns-then-at-gt-LINE_MAX-clause-taken
returns-then-at-gt-LINE_MAX-clause-taken c = λ text after is short.
    let there = feeds_there c.args.piece.now text after is in
    absurd (c.in_ok-at.ensures.0.before (length text) (omega arith) (omega (arith, short, c.if-at-gt-LINE_MAX.true)) there.1)

pub returns-in_err-at-clause-taken : goal.returns-in_err-at-clause-taken
returns-in_err-at-clause-taken c = λ text after is short.
    let there = feeds_there c.args.piece.now text after is in
    absurd (c.in_err-at.ensures (length text) (omega arith) there.0 there.1)
