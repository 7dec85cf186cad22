use Rattle.std.proofs.Common.{[], ◌∷◌, ◌++◌, append_assoc, sym, ap, ◌∙◌}
use Rattle.nut_monitor.specs.inside.Sound.{with_word}
use Rattle.nut_words.proofs.CutLemmas.{pending}
use Rattle.nut_monitor.proofs.FlagLemmas.{flags_of-more}
use Rattle.nut_monitor.proofs.flags.read_flags.Goals as goal

pub loop-rest-preserved : goal.loop-rest-preserved
loop-rest-preserved c =
    let kept = c.loop-rest.invariant in
    let word = c.cut.result.0.now in (
      kept.0 ++ word ∷ [],
      record {
        words = kept.1.words ∙ ap (λ ps. kept.0 ++ ps) (ap (pending 32) c.in-Some.is ∙ c.cut.ensures.parts) ∙ sym (append_assoc kept.0 (word ∷ []) (pending 32 c.cut.result.1));
        flags = c.add-flags.ensures ∙ ap (with_word word) kept.1.flags ∙ sym (flags_of-more kept.0 word);
      },
    )
