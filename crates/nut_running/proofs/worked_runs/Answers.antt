use Rattle.nut_running.proofs.Worked.{examples}
use Rattle.nut_running.proofs.worked_runs.Goals as goal

pub returns : goal.returns
returns c = examples
