use Rattle.nut_server_spec.proofs.Bounds.{bounds-hold}
use Rattle.nut_server_spec.proofs.bounds_hold.Goals as goal

pub returns : goal.returns
returns c = bounds-hold
