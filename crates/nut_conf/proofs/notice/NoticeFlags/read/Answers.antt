use Rattle.std.proofs.Common.{[], ◌∷◌, ◌++◌, append_assoc, sym, ap, ◌∙◌, arith}
use Rattle.std.proofs.lemmas.Grind.{common_steps}
use Rattle.nut_conf.specs.Notices.{with_flag}
use Rattle.nut_words.proofs.CutLemmas.{pending}
use Rattle.nut_conf.proofs.FlagLemmas.{flags_in-more, known_more}
use Rattle.nut_conf.proofs.notice.NoticeFlags.read.Goals as goal

pub loop-rest-preserved : goal.loop-rest-preserved
loop-rest-preserved c =
    let kept = c.loop-rest.invariant in
    let word = c.cut.result.0.now in
    let added = c.in_ok-add.ensures {u = tt} in (
      kept.0 ++ word ∷ [],
      record {
        parts = kept.1.parts ∙ ap (λ ps. kept.0 ++ ps) (ap (pending 43) c.in-Some.is ∙ c.cut.ensures.parts) ∙ sym (append_assoc kept.0 (word ∷ []) (pending 43 c.cut.result.1));
        known = known_more kept.0 word kept.1.known added.0;
        flags = added.1 ∙ ap (with_flag word) kept.1.flags ∙ sym (flags_in-more kept.0 word);
      },
    )

pub returns-in_err-add-clause-reads : goal.returns-in_err-add-clause-reads
returns-in_err-add-clause-reads c = grind (arith, common_steps)
