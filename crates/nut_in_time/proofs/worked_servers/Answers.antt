use Rattle.nut_in_time.proofs.WorkedAnyServers.{any_servers-examples}
use Rattle.nut_in_time.proofs.worked_servers.Goals as goal

pub returns : goal.returns
returns c = any_servers-examples
