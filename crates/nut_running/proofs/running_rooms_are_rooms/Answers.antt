use Rattle.nut_running.proofs.Laws.{running-rooms}
use Rattle.nut_running.proofs.running_rooms_are_rooms.Goals as goal

pub returns : goal.returns
returns c = running-rooms c.every_table_holds.ensures
