use Rattle.nut_fleet.proofs.WorkedPasts.{past-examples}
use Rattle.nut_fleet.proofs.worked_pasts.Goals as goal

pub returns : goal.returns
returns c = past-examples
