use Rattle.std.proofs.Common.{◌∙◌}
use Rattle.nut_dummy.specs.inside.Machine.{dumped}
use Rattle.nut_dummy.proofs.SweptLemmas.{swept-step, swept-all}
use Rattle.nut_dummy.proofs.telling.mark_all_dumped.Goals as goal

pub loop-variable-preserved : goal.loop-variable-preserved
loop-variable-preserved c =
    swept-step dumped c.loop-variable.variables c.args.variables.now c.loop-variable.variable-index c.variable-item.result c.mark_dumped.new.self
    c.loop-variable-test.true c.loop-variable.invariant c.mark_dumped.ensures

pub returns : goal.returns
returns c = c.loop-variable.invariant ∙ swept-all dumped c.loop-variable.variable-index c.args.variables.now c.loop-variable-test.false
