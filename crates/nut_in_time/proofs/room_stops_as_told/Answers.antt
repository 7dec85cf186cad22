use Rattle.nut_in_time.proofs.RoomAsTold.{hostsync-suffices_told, primaries-force}
use Rattle.nut_in_time.proofs.room_stops_as_told.Goals as goal

pub returns-clause-forced : goal.returns-clause-forced
returns-clause-forced c = primaries-force

pub returns-clause-before : goal.returns-clause-before
returns-clause-before c = hostsync-suffices_told
