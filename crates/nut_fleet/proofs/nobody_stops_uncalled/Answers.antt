use Rattle.nut_fleet.proofs.Lawful.{lawful}
use Rattle.nut_fleet.proofs.Standing.{nobody-stops}
use Rattle.nut_fleet.proofs.nobody_stops_uncalled.Goals as goal

pub returns : goal.returns
returns c = λ setup schedule fine. nobody-stops setup (lawful c.every_table_holds.ensures setup.server) fine schedule
