use Rattle.nut_server_spec.proofs.Recut.{driver-cuts-and-writes}
use Rattle.nut_server_spec.proofs.driver_cuts_and_writes_do_not_matter.Goals as goal

pub returns : goal.returns
returns c = driver-cuts-and-writes
