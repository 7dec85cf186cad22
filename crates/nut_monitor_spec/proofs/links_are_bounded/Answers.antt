use Rattle.nut_monitor_spec.proofs.Bounds.{links-bounded}
use Rattle.nut_monitor_spec.proofs.links_are_bounded.Goals as goal

pub returns : goal.returns
returns c = links-bounded
