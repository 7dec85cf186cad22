use Rattle.nut_server_spec.proofs.Ended.{reload-ends-first}
use Rattle.nut_server_spec.proofs.reload_is_downs_then_closes_then_itself.Goals as goal

pub returns : goal.returns
returns c = reload-ends-first
