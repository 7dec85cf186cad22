use Rattle.std.proofs.Common.{◌≡◌, ◌+◌, ◌≤◌, ◌++◌, ℕ, List, [], ◌∷◌, length, take, drop, sym, ap, subst, ◌∙◌, arith, length-append}
use Rattle.std.proofs.lemmas.List.{take_rest, drop-drop, length-drop}
use Rattle.nut_words.specs.Cutter.{handed_out, line_of}
use Rattle.nut_words.specs.Hearing.{heard_all}
use Rattle.nut_words.specs.Lines.{lines, lines_after, rest, rest_after}
use Rattle.nut_words.proofs.HearLemmas.{few_lines_front, front_lines, front_rest, heard_all-append, parted_at, taken_whole}
use Rattle.nut_words.proofs.StreamGrowth.{rest-append}
use Rattle.nut_words.proofs.hearing.hear_lines.Goals as goal
use Rattle.nut_words.proofs.hearing.hear_lines.Goals.{in-Some+in-Ok, in_default}

pub returns-in-Err-clause-stream : goal.returns-in-Err-clause-stream
returns-in-Err-clause-stream g c =
    let h = c.loop-left.invariant.heard in
    let b = c.requires.rest.0 in
    let p = c.args.piece.now in
    let used = c.feed.result.1 in (
      b ++ take (h.0 + used) p,
      front_rest b h.0 used p c.loop-left.left.now c.feed.follows.lender-at-none h.2 (c.feed.follows.holds-at-none.0 (b ++ take h.0 p) (h.5 b c.requires.rest.1)),
    )

pub returns-in-Err-clause-stops : goal.returns-in-Err-clause-stops
returns-in-Err-clause-stops g c =
    let h = c.loop-left.invariant.heard in
    let b = c.requires.rest.0 in
    let here = c.requires.rest.1 in
    let p = c.args.piece.now in
    let n = h.0 in
    let used = c.feed.result.1 in
    let line = line_of c.in-Some.line in
    let brought : lines ((b ++ take n p) ++ take used c.loop-left.left.now) ≡ lines (b ++ take n p) ++ line ∷ [] =
    c.feed.ensures.line (b ++ take n p) (h.5 b here) ∙ ap (λ o. lines (b ++ take n p) ++ handed_out o) c.in-Some.is in
    record {
      earlier = lines_after c.args.cutter.now (take n p);
      line = line;
      later = lines_after (rest (b ++ take (n + used) p)) (drop (n + used) p);
      parted = parted_at b c.args.cutter.now n used p c.loop-left.left.now line here h.2 brought;
      count = h.3;
      stops = subst (λ before. g.H.HearLine.GoesOn before × g.H.HearLine.Stops c.args.with line before c.in-Err.stop c.hear_line.new.self) h.4 (c.loop-left.invariant.goes_on, c.in-Err.ensures.stops);
    }

pub overflow_add-done : goal.overflow_add-done
overflow_add-done g c =
    let h = c.loop-left.invariant.heard in
    let b = c.requires.rest.0 in
    let here = c.requires.rest.1 in
    let p = c.args.piece.now in
    let start = c.args.cutter.now in
    let used = c.feed.result.1 in
    let line = line_of c.in-Some.line in
    let more : lines_after start (take (h.0 + used) p) ≡ lines_after start (take h.0 p) ++ line ∷ [] =
    front_lines b start h.0 used p c.loop-left.left.now (line ∷ []) here h.2
    (c.feed.ensures.line (b ++ take h.0 p) (h.5 b here) ∙ ap (λ o. lines (b ++ take h.0 p) ++ handed_out o) c.in-Some.is) in
    omega (arith, h.3, ap length more, length-append (lines_after start (take h.0 p)) (line ∷ []), few_lines_front start (h.0 + used) p)

pub loop-left-preserved : goal.loop-left-preserved
loop-left-preserved g c =
    let h = c.loop-left.invariant.heard in
    let b = c.requires.rest.0 in
    let here = c.requires.rest.1 in
    let p = c.args.piece.now in
    let n = h.0 in
    let left = c.loop-left.left.now in
    let used = c.feed.result.1 in
    let handed = handed_out c.feed.result.0 in
    let start = c.args.cutter.now in
    let before = c.args.hearer.now in
    let hear = g.H.HearLine.heard c.args.with in
    let follows : (a : List ℕ) → start ≡ rest a → c.feed.follows.lender-at-none ≡ rest (a ++ take (n + used) p) = λ a is.
    front_rest a n used p left c.feed.follows.lender-at-none h.2 (c.feed.follows.holds-at-none.0 (a ++ take n p) (h.5 a is)) in
    let within : n + used ≤ length p = omega (arith, ap length h.2, length-drop n p, c.feed.ensures.used) in
    let next = take_rest left used ∙ ap (drop used) h.2 ∙ drop-drop used n p in
    let more = front_lines b start n used p left handed here h.2 (c.feed.ensures.line (b ++ take n p) (h.5 b here)) in
    elim c.match-line.branch [
      | in-Some+in-Ok w ↦
          let line = line_of w.in-Some.line in
          let one : lines_after start (take (n + used) p) ≡ lines_after start (take n p) ++ line ∷ [] = more ∙ ap (λ o. lines_after start (take n p) ++ handed_out o) w.in-Some.is in
          record {
            heard = (
              n + used,
              within,
              next,
              omega (arith, w.done-is, h.3, ap length one, length-append (lines_after start (take n p)) (line ∷ [])),
              w.hearer-is ∙ w.in-Ok.ensures.heard ∙ ap (heard_all hear (line ∷ [])) h.4 ∙ sym (heard_all-append hear (lines_after start (take n p)) (line ∷ []) before) ∙ ap (λ ls. heard_all hear ls before) (sym one),
              λ a is. w.cutter-is ∙ follows a is,
            );
            goes_on = subst g.H.HearLine.GoesOn (sym w.hearer-is) w.in-Ok.ensures.goes_on;
          }
      | in_default w ↦
          let none : lines_after start (take (n + used) p) ≡ lines_after start (take n p) ++ [] = more ∙ ap (λ o. lines_after start (take n p) ++ handed_out o) w.in_default.is in
          record {
            heard = (
              n + used,
              within,
              next,
              omega (arith, w.done-is, h.3, ap length none, length-append (lines_after start (take n p)) []),
              w.hearer-is ∙ h.4 ∙ sym (heard_all-append hear (lines_after start (take n p)) [] before) ∙ ap (λ ls. heard_all hear ls before) (sym none),
              λ a is. w.cutter-is ∙ follows a is,
            );
            goes_on = subst g.H.HearLine.GoesOn (sym w.hearer-is) c.loop-left.invariant.goes_on;
          }
    ]

pub returns-clause-rest : goal.returns-clause-rest
returns-clause-rest g c =
    let h = c.loop-left.invariant.heard in
    let b = c.requires.rest.0 in
    let p = c.args.piece.now in
    let whole = taken_whole h.0 p c.loop-left.left.now h.2 (sym c.is_empty.ensures ∙ c.loop-left-test.false) in
    h.5 b c.requires.rest.1 ∙ ap (λ x. rest (b ++ x)) whole ∙ rest-append b p ∙ ap (λ r. rest_after r p) (sym c.requires.rest.1)

pub returns-clause-count : goal.returns-clause-count
returns-clause-count g c =
    let h = c.loop-left.invariant.heard in
    let whole = taken_whole h.0 c.args.piece.now c.loop-left.left.now h.2 (sym c.is_empty.ensures ∙ c.loop-left-test.false) in
    h.3 ∙ ap (λ x. length (lines_after c.args.cutter.now x)) whole
