use Rattle.nut_server_sockets.proofs.OneList.{one_list_waits}
use Rattle.nut_server_sockets.proofs.laws.one_list_waits.Goals as goal

pub returns : goal.returns
returns c = one_list_waits c.every_table_holds.ensures
