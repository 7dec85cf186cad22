use Rattle.nut_server_spec.proofs.Recut.{cuts-and-writes}
use Rattle.nut_server_spec.proofs.cuts_and_writes_do_not_matter.Goals as goal

pub returns : goal.returns
returns c = cuts-and-writes
