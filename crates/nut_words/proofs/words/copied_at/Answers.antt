use Rattle.std.proofs.Common.{arith, ap, sym, ◌∙◌, ◌≡◌, ◌+◌, ◌-◌, take, get_or, []}
use Rattle.nut_words.specs.inside.WordsInside.{with_copied}
use Rattle.nut_words.proofs.CopiedWords.{here, elsewhere}
use Rattle.nut_words.proofs.words.copied_at.Goals as goal

pub returns-then-word-place-clause-some : goal.returns-then-word-place-clause-some
returns-then-word-place-clause-some c = λ words places.
    let n = c.loop-left.left - 1 in
    let next : c.loop-left.left ≡ n + 1 = omega (arith, c.loop-left-test.true) in
    sym (c.loop-left.invariant.1 words)
    ∙ ap (λ m. get_or (with_copied (take m c.args.copied.now) words) c.args.place []) next
    ∙ here c.args.copied.now n c.index-copied-left.result words c.args.place (omega (arith, c.loop-left.invariant.0, c.loop-left-test.true)) (ap (λ w. w.place) (sym c.index-copied-left.is) ∙ c.if-word-place.true) places
    ∙ ap (λ w. w.text.items) (sym c.index-copied-left.is) ∙ sym c.as_slice.ensures.value

pub loop-left-preserved : goal.loop-left-preserved
loop-left-preserved c =
    let n = c.loop-left.left - 1 in
    let next : c.loop-left.left ≡ n + 1 = omega (arith, c.loop-left-test.true) in (
      omega (arith, c.loop-left.invariant.0),
      λ words. sym (elsewhere c.args.copied.now n c.index-copied-left.result words c.args.place (omega (arith, c.loop-left.invariant.0, c.loop-left-test.true)) (λ e. c.if-word-place.false (ap (λ w. w.place) c.index-copied-left.is ∙ e)))
          ∙ ap (λ m. get_or (with_copied (take m c.args.copied.now) words) c.args.place []) (sym next)
          ∙ c.loop-left.invariant.1 words,
    )
