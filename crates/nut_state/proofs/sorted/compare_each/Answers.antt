use Rattle.std.proofs.Common.{sym, ◌∙◌, arith}
use Rattle.nut_state.proofs.CompareLemmas.{compare_end}
use Rattle.nut_state.proofs.sorted.compare_each.Goals as goal

pub returns : goal.returns
returns c =
    c.cmp-2.ensures ∙ (sym (compare_end c.args.a.now c.args.b.now c.loop-at.at c.loop-at.invariant.0 c.loop-at.invariant.1 (omega (arith, c.loop-at-test.false, c.min-end.ensures))) ∙ sym c.loop-at.invariant.2)
