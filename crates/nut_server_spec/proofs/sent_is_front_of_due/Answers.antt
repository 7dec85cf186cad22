use Rattle.nut_server_spec.proofs.Sent.{sent-front}
use Rattle.nut_server_spec.proofs.sent_is_front_of_due.Goals as goal

pub returns : goal.returns
returns c = sent-front
