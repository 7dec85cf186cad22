use Rattle.nut_fleet.proofs.Lawful.{lawful}
use Rattle.nut_in_time.proofs.Rooms.{room-stops}
use Rattle.nut_in_time.proofs.room_stops_in_time.Goals as goal

pub returns : goal.returns
returns c = λ setup schedule fine. room-stops c.every_table_holds.ensures setup (lawful c.every_table_holds.ensures setup.server) fine schedule
