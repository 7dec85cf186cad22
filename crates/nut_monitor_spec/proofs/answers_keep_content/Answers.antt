use Rattle.nut_monitor_spec.proofs.Answering.{answers-keep}
use Rattle.nut_monitor_spec.proofs.answers_keep_content.Goals as goal

pub returns : goal.returns
returns c = answers-keep
