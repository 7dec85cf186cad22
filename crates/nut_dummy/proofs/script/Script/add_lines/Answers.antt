use Rattle.std.proofs.Common.{◌≡◌, ℕ, ◌+◌, ◌≤◌, [], ◌∷◌, ◌++◌, length, sym, ap, ◌∙◌, subst, arith, append_assoc, length-append}
use Rattle.nut_dummy.specs.Script.{IsFaultOf}
use Rattle.nut_words.proofs.CutLemmas.{pending, left, left-shorter}
use Rattle.nut_dummy.proofs.ScriptLemmas.{read_lines-fault, read_lines-done, makes_more, reads_on}
use Rattle.nut_dummy.proofs.script.Script.add_lines.Goals as goal

pub returns-in-Err-clause-fault : goal.returns-in-Err-clause-fault
returns-in-Err-clause-fault c =
    let kept = c.loop-rest.invariant in
    let behind = pending 10 c.cut.result.1 in
    let n : ℕ = c.loop-rest.number + 1 in
    let line_of : pending 10 c.loop-rest.rest ≡ c.cut.result.0.now ∷ behind = ap (pending 10) c.in-Some.is ∙ c.cut.ensures.parts in
    subst (IsFaultOf n c.in-Err.kind) (sym (reads_on c.args.kind c.args.bytes.now kept.0 (c.cut.result.0.now ∷ behind) c.loop-rest.self c.loop-rest.number (kept.1.taken ∙ ap (λ ls. kept.0 ++ ls) line_of) kept.1.count kept.1.makes))
    (read_lines-fault c.args.kind c.loop-rest.self n c.in-Err.kind c.cut.result.0.now behind c.in-Err.ensures.line)

pub loop-rest-preserved : goal.loop-rest-preserved
loop-rest-preserved c =
    let kept = c.loop-rest.invariant in
    let line = c.cut.result.0.now in
    let behind = pending 10 c.cut.result.1 in
    let line_of : pending 10 c.loop-rest.rest ≡ line ∷ behind = ap (pending 10) c.in-Some.is ∙ c.cut.ensures.parts in (
      kept.0 ++ line ∷ [],
      record {
        taken = kept.1.taken ∙ ap (λ ls. kept.0 ++ ls) line_of ∙ sym (append_assoc kept.0 (line ∷ []) behind);
        count = omega (arith, kept.1.count, length-append kept.0 (line ∷ []));
        makes = makes_more c.args.kind kept.0 line c.loop-rest.self c.add_line.new.self kept.1.makes c.in-Ok.ensures.line;
        room =
            let shorter : left c.cut.result.1 ≤ length c.in-Some.text.now = left-shorter c.cut.result.1 (length c.in-Some.text.now) c.cut.ensures.shorter in
            let was : left c.loop-rest.rest ≡ length c.in-Some.text.now + 1 = ap left c.in-Some.is in
            omega (arith, kept.1.room);
        round = omega (arith, kept.1.round, c.in-Ok.ensures.round);
      },
    )

pub returns-clause-lines : goal.returns-clause-lines
returns-clause-lines c =
    let kept = c.loop-rest.invariant in
    reads_on c.args.kind c.args.bytes.now kept.0 [] c.loop-rest.self c.loop-rest.number (kept.1.taken ∙ ap (λ r. kept.0 ++ pending 10 r) c.in_default.is) kept.1.count kept.1.makes
    ∙ read_lines-done c.args.kind c.loop-rest.self (c.loop-rest.number + 1)
