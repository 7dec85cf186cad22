use Rattle.nut_in_time.proofs.WorkedRooms.{room-examples}
use Rattle.nut_in_time.proofs.worked_rooms.Goals as goal

pub returns : goal.returns
returns c = room-examples
