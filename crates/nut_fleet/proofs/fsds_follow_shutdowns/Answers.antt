use Rattle.nut_fleet.proofs.Following.{fsds-follow}
use Rattle.nut_fleet.proofs.Lawful.{lawful}
use Rattle.nut_fleet.proofs.fsds_follow_shutdowns.Goals as goal

pub returns : goal.returns
returns c = λ setup schedule fine. fsds-follow setup (lawful c.every_table_holds.ensures setup.server) fine schedule
