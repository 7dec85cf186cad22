use Rattle.nut_server_spec.proofs.Others.{other-drivers-stay}
use Rattle.nut_server_spec.proofs.other_drivers_stay.Goals as goal

pub returns : goal.returns
returns c = other-drivers-stay
