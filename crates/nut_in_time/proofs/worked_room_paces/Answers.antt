use Rattle.nut_in_time.proofs.WorkedRoomPaces.{room-pace-examples}
use Rattle.nut_in_time.proofs.worked_room_paces.Goals as goal

pub returns : goal.returns
returns c = room-pace-examples
