use Rattle.std.proofs.Common.{◌∙◌}
use Rattle.nut_dummy.specs.inside.Machine.{untold}
use Rattle.nut_dummy.proofs.SweptLemmas.{swept-step, swept-all}
use Rattle.nut_dummy.proofs.telling.forget_link.Goals as goal

pub loop-variable-preserved : goal.loop-variable-preserved
loop-variable-preserved c =
    swept-step untold c.loop-variable.variables c.args.variables.now c.loop-variable.variable-index c.variable-item.result c.forget_link.new.self
    c.loop-variable-test.true c.loop-variable.invariant c.forget_link.ensures

pub returns : goal.returns
returns c = c.loop-variable.invariant ∙ swept-all untold c.loop-variable.variable-index c.args.variables.now c.loop-variable-test.false
