use Rattle.nut_halter.proofs.Obeying.{obeys_none, obeys_more, quiet_more}
use Rattle.nut_halter.proofs.obey.Goals as goal

pub loop-init : goal.loop-init
loop-init g c = obeys_none _ _ c.requires.nothing_given c.requires.nothing_done

pub returns-in-Some-clause-each : goal.returns-in-Some-clause-each
returns-in-Some-clause-each g c = obeys_more c.in_ok-order.order _ _ _ _ c.in_ok-order.ensures c.in-Some.ensures.done c.loop.invariant.1

pub loop-preserved : goal.loop-preserved
loop-preserved g c = (
  quiet_more c.in_ok-order.order _ _ c.in_default.ensures.goes_on c.in_default.ensures.done c.loop.invariant.0,
  obeys_more c.in_ok-order.order _ _ _ _ c.in_ok-order.ensures c.in_default.ensures.done c.loop.invariant.1,
)
