use Rattle.std.proofs.Common.{◌∙◌}
use Rattle.nut_dummy.specs.inside.Machine.{followed}
use Rattle.nut_dummy.specs.inside.Changes.{change_of}
use Rattle.nut_dummy.proofs.SweptLemmas.{swept-step, swept-all}
use Rattle.nut_dummy.proofs.telling.follow_all.Goals as goal

pub loop-variable-preserved : goal.loop-variable-preserved
loop-variable-preserved c =
    swept-step (followed c.args.asked (change_of c.args.change.now)) c.loop-variable.variables c.args.variables.now c.loop-variable.variable-index c.variable-item.result c.follow.new.self
    c.loop-variable-test.true c.loop-variable.invariant c.follow.ensures

pub returns : goal.returns
returns c = c.loop-variable.invariant ∙ swept-all (followed c.args.asked (change_of c.args.change.now)) c.loop-variable.variable-index c.args.variables.now c.loop-variable-test.false
