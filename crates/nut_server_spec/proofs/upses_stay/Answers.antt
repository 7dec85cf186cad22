use Rattle.nut_server_spec.proofs.Staying.{upses-stay}
use Rattle.nut_server_spec.proofs.upses_stay.Goals as goal

pub returns : goal.returns
returns c = upses-stay
