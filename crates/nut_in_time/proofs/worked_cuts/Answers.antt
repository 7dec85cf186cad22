use Rattle.nut_in_time.proofs.WorkedCutOff.{cut_off-examples}
use Rattle.nut_in_time.proofs.worked_cuts.Goals as goal

pub returns : goal.returns
returns c = cut_off-examples
