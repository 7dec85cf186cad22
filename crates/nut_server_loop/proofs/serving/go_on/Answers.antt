use Rattle.std.proofs.Common.{arith, ◌∙◌}
use Rattle.std.proofs.lemmas.Grind.{common_steps}
use Rattle.nut_server_loop.proofs.Starts.{offered_after}
use Rattle.nut_server_loop.proofs.serving.go_on.Goals as goal

pub loop-preserved : goal.loop-preserved
loop-preserved g c = record {
  same_count = c.in_ok-settle_all.ensures.goes.counted ∙ c.in_ok-turn.ensures.goes.counted ∙ c.loop.invariant.same_count;
  offered = offered_after _ _ _ _ c.in_ok-settle_all.ensures.goes.ok c.in_ok-settle_all.ensures.withheld;
  reached = c.in_ok-settle_all.ensures.goes.reached;
  withheld = c.in_ok-settle_all.ensures.withheld;
  left = c.in_ok-settle_all.ensures.left;
}

pub returns-then-not-branch-clause-left : goal.returns-then-not-branch-clause-left
returns-then-not-branch-clause-left g c = grind (arith, common_steps)

pub returns-then-not-branch-clause-ended : goal.returns-then-not-branch-clause-ended
returns-then-not-branch-clause-ended g c = grind (arith, common_steps)
