use Rattle.nut_server_spec.proofs.DriverSent.{driver_sent-received}
use Rattle.nut_server_spec.proofs.driver_sent_is_received.Goals as goal

pub returns : goal.returns
returns c = driver_sent-received
