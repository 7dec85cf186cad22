use Rattle.nut_server_spec.proofs.Tracked as tracked
use Rattle.nut_server_spec.proofs.tracking_looks_back.Goals as goal

pub returns : goal.returns
returns c = tracked.tracking_looks_back
