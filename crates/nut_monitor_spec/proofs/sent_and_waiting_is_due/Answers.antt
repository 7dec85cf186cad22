use Rattle.nut_monitor_spec.proofs.Answering.{sent-and-waiting}
use Rattle.nut_monitor_spec.proofs.sent_and_waiting_is_due.Goals as goal

pub returns : goal.returns
returns c = sent-and-waiting
