use Rattle.nut_server_spec.proofs.Sent.{sent-waiting-due}
use Rattle.nut_server_spec.proofs.sent_and_waiting_is_due.Goals as goal

pub returns : goal.returns
returns c = sent-waiting-due
