use Rattle.nut_upsmon.proofs.Bounds.{stops-within}
use Rattle.nut_upsmon.proofs.stopping.machines_stop_within.Goals as goal

pub returns : goal.returns
returns c = stops-within c.machines_stop_as_told.ensures
