use Rattle.nut_server_spec.proofs.Renumbered.{keeps-number}
use Rattle.nut_server_spec.proofs.keeps_its_number.Goals as goal

pub returns : goal.returns
returns c = keeps-number
