use Rattle.nut_server_spec.proofs.Sent.{sent-received}
use Rattle.nut_server_spec.proofs.sent_is_received.Goals as goal

pub returns : goal.returns
returns c = sent-received
