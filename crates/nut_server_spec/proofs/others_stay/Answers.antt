use Rattle.nut_server_spec.proofs.Others.{others-stay}
use Rattle.nut_server_spec.proofs.others_stay.Goals as goal

pub returns : goal.returns
returns c = others-stay
