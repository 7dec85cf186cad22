use Rattle.nut_in_time.proofs.AnyServers.{machines-stop}
use Rattle.nut_in_time.proofs.machines_stop_as_told.Goals as goal

pub returns : goal.returns
returns c = machines-stop
