use Rattle.nut_in_time.proofs.WorkedRoomAsTold.{room_as_told-examples}
use Rattle.nut_in_time.proofs.worked_rooms_of_servers.Goals as goal

pub returns : goal.returns
returns c = room_as_told-examples
