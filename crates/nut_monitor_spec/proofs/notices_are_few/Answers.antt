use Rattle.nut_monitor_spec.proofs.Waiting.{notices-few}
use Rattle.nut_monitor_spec.proofs.notices_are_few.Goals as goal

pub returns : goal.returns
returns c = notices-few
