use Rattle.nut_monitor_spec.proofs.Handing.{notices-in-order}
use Rattle.nut_monitor_spec.proofs.notices_come_in_order.Goals as goal

pub returns : goal.returns
returns c = notices-in-order
