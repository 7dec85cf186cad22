use Rattle.std.proofs.Common.{◌≡◌, ℕ, ◌+◌, ◌≤◌, [], ◌∷◌, ◌++◌, Err, length, refl, sym, ap, ◌∙◌, subst, arith, append_assoc, length-append}
use Rattle.nut_conf.specs.Files.{read_lines, read_file, IsFaultOf}
use Rattle.nut_words.proofs.CutLemmas.{pending, left, left-shorter}
use Rattle.nut_conf.proofs.FileLemmas.{read_lines-more, read_lines-behind, read_lines-fault, read_lines-done, read_file-lines}
use Rattle.nut_conf.proofs.file.read_draft.Goals as goal

pub loop-rest-init : goal.loop-rest-init
loop-rest-init g c = (
  [],
  [],
  record {
    taken = refl;
    count = refl;
    reads = read_lines-done g.D.Draft.fault [] 1;
    holds = c.new-draft.ensures;
    completes = refl;
    room = omega arith;
    short = omega arith;
  },
)

pub returns-in-Err-clause-means : goal.returns-in-Err-clause-means
returns-in-Err-clause-means g c =
    let fault = g.D.Draft.fault in
    let kept = c.loop-rest.invariant in
    let line = c.cut.result.0.now in
    let behind = pending 10 c.cut.result.1 in
    let n : ℕ = c.loop-rest.number + 1 in
    let whole : read_lines fault kept.0 n (line ∷ behind) ≡ read_file fault c.args.bytes.now =
    ap (read_lines fault kept.0 n) (sym (ap (pending 10) c.in-Some.is ∙ c.cut.ensures.parts)) ∙ kept.2.completes ∙ sym (read_file-lines fault c.args.bytes.now kept.2.short) in
    subst (IsFaultOf n c.in-Err.fault.kind) whole (read_lines-fault fault kept.0 n c.in-Err.fault.kind line behind (c.in-Err.ensures.takes kept.0 kept.2.holds))

pub loop-rest-preserved : goal.loop-rest-preserved
loop-rest-preserved g c =
    let fault = g.D.Draft.fault in
    let kept = c.loop-rest.invariant in
    let line = c.cut.result.0.now in
    let behind = pending 10 c.cut.result.1 in
    let n : ℕ = c.loop-rest.number + 1 in
    let taken = c.in_default-take_line.ensures.takes kept.0 kept.2.holds in
    let line_of : pending 10 c.loop-rest.rest ≡ line ∷ behind = ap (pending 10) c.in-Some.is ∙ c.cut.ensures.parts in (
      taken.0,
      kept.1 ++ line ∷ [],
      record {
        taken = kept.2.taken ∙ ap (λ ls. kept.1 ++ ls) line_of ∙ sym (append_assoc kept.1 (line ∷ []) behind);
        count = omega (arith, kept.2.count, length-append kept.1 (line ∷ []));
        reads = read_lines-behind fault [] kept.0 taken.0 1 kept.1 line kept.2.reads taken.1;
        holds = taken.2;
        completes = sym (read_lines-more fault kept.0 taken.0 n line behind taken.1)
            ∙ ap (read_lines fault kept.0 n) (sym (ap (pending 10) c.in-Some.is ∙ c.cut.ensures.parts)) ∙ kept.2.completes;
        room =
            let shorter : left c.cut.result.1 ≤ length c.in-Some.text.now = left-shorter c.cut.result.1 (length c.in-Some.text.now) c.cut.ensures.shorter in
            let was : left c.loop-rest.rest ≡ length c.in-Some.text.now + 1 = ap left c.in-Some.is in
            omega (arith, kept.2.room);
        short = kept.2.short;
      },
    )

pub returns-in-Err-clause-memory : goal.returns-in-Err-clause-memory
returns-in-Err-clause-memory g c = λ ran_out.
    let kept = c.loop-rest.invariant in
    let line = c.cut.result.0.now in
    let behind = pending 10 c.cut.result.1 in (
      kept.1,
      line,
      behind,
      kept.0,
      kept.2.short,
      kept.2.taken ∙ ap (λ ls. kept.1 ++ ls) (ap (pending 10) c.in-Some.is ∙ c.cut.ensures.parts),
      omega (arith, kept.2.count),
      kept.2.reads,
      c.in-Err.ensures.memory kept.0 kept.2.holds (ap (λ k. Err k) ran_out),
    )

pub returns-clause-means : goal.returns-clause-means
returns-clause-means g c =
    let fault = g.D.Draft.fault in
    let kept = c.loop-rest.invariant in (
      kept.0,
      read_file-lines fault c.args.bytes.now kept.2.short ∙ sym kept.2.completes ∙ ap (λ r. read_lines fault kept.0 (c.loop-rest.number + 1) (pending 10 r)) c.in_default.is ∙ read_lines-done fault kept.0 (c.loop-rest.number + 1),
      kept.2.holds,
    )
