use Rattle.nut_server_spec.proofs.Cuts.{driver_cut-law}
use Rattle.nut_server_spec.proofs.driver_cuts_do_not_matter.Goals as goal

pub returns : goal.returns
returns c = driver_cut-law
