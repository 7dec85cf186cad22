use Rattle.nut_server_spec.proofs.LoggedOut.{logout-final}
use Rattle.nut_server_spec.proofs.logout_is_final.Goals as goal

pub returns : goal.returns
returns c = logout-final
