use Rattle.nut_server_spec.proofs.Shown.{status-is-the-drivers}
use Rattle.nut_server_spec.proofs.status_is_the_drivers.Goals as goal

pub returns : goal.returns
returns c = status-is-the-drivers c.every_table_holds.ensures
