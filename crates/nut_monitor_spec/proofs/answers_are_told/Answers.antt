use Rattle.nut_monitor_spec.proofs.Answering.{answers-told}
use Rattle.nut_monitor_spec.proofs.answers_are_told.Goals as goal

pub returns : goal.returns
returns c = answers-told
