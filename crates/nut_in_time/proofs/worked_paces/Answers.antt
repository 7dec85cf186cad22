use Rattle.nut_in_time.proofs.WorkedPaces.{pace-examples}
use Rattle.nut_in_time.proofs.worked_paces.Goals as goal

pub returns : goal.returns
returns c = pace-examples
