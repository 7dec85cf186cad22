use Rattle.nut_server_spec.proofs.Others.{opened-fresh}
use Rattle.nut_server_spec.proofs.opened_is_fresh.Goals as goal

pub returns : goal.returns
returns c = opened-fresh
