use Rattle.nut_server_spec.proofs.DriverSent.{driver_sent-waiting-due}
use Rattle.nut_server_spec.proofs.driver_sent_and_waiting_is_due.Goals as goal

pub returns : goal.returns
returns c = driver_sent-waiting-due
