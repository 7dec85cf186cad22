use Rattle.nut_in_time.proofs.WorkedSeveral.{several-examples}
use Rattle.nut_in_time.proofs.worked_several.Goals as goal

pub returns : goal.returns
returns c = several-examples
