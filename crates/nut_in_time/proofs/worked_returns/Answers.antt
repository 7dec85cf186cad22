use Rattle.nut_in_time.proofs.WorkedReturning.{returning-examples}
use Rattle.nut_in_time.proofs.worked_returns.Goals as goal

pub returns : goal.returns
returns c = returning-examples
