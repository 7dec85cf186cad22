use Rattle.nut_monitor_spec.proofs.Answering.{shutdown-stays}
use Rattle.nut_monitor_spec.proofs.shutdown_stays.Goals as goal

pub returns : goal.returns
returns c = shutdown-stays
