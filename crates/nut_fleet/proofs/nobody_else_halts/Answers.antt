use Rattle.nut_fleet.proofs.Halting.{nobody-else}
use Rattle.nut_fleet.proofs.Lawful.{lawful}
use Rattle.nut_fleet.proofs.nobody_else_halts.Goals as goal

pub returns : goal.returns
returns c = λ setup schedule fine. nobody-else setup (lawful c.every_table_holds.ensures setup.server) fine schedule
