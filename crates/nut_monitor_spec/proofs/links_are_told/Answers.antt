use Rattle.nut_monitor_spec.proofs.Told.{links-told}
use Rattle.nut_monitor_spec.proofs.links_are_told.Goals as goal

pub returns : goal.returns
returns c = links-told
