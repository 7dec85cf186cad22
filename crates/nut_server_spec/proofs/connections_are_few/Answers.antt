use Rattle.nut_server_spec.proofs.Connections.{connections-few}
use Rattle.nut_server_spec.proofs.connections_are_few.Goals as goal

pub returns : goal.returns
returns c = connections-few
