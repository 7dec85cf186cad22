use Rattle.nut_server_spec.proofs.Others.{closed-stays}
use Rattle.nut_server_spec.proofs.closed_stays_closed.Goals as goal

pub returns : goal.returns
returns c = closed-stays
