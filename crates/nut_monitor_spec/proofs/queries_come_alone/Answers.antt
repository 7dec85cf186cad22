use Rattle.nut_monitor_spec.proofs.Putting.{come-alone}
use Rattle.nut_monitor_spec.proofs.queries_come_alone.Goals as goal

pub returns : goal.returns
returns c = come-alone
