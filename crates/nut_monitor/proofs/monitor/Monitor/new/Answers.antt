use Rattle.nut_monitor.proofs.Steps.{beginning_orderly}
use Rattle.nut_monitor.proofs.monitor.Monitor.new.Goals as goal

pub invariant_of-result : goal.invariant_of-result
invariant_of-result c = beginning_orderly c.args.config _ (c.in-Ok.ensures {u = tt})
