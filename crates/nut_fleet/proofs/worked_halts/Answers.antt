use Rattle.nut_fleet.proofs.WorkedHalts.{halting-examples}
use Rattle.nut_fleet.proofs.worked_halts.Goals as goal

pub returns : goal.returns
returns c = halting-examples
