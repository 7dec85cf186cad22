use Rattle.nut_server_spec.proofs.Waiting.{waits-bounded}
use Rattle.nut_server_spec.proofs.waits_are_bounded.Goals as goal

pub returns : goal.returns
returns c = waits-bounded c.every_table_holds.ensures
