use Rattle.nut_fleet.proofs.Lawful.{lawful}
use Rattle.nut_in_time.proofs.Returning.{returning-forced, returning-primaries}
use Rattle.nut_in_time.proofs.links_come_back.Goals as goal

pub returns-clause-primaries : goal.returns-clause-primaries
returns-clause-primaries c = λ setup schedule fine. returning-primaries setup (lawful c.every_table_holds.ensures setup.server) fine schedule

pub returns-clause-forced : goal.returns-clause-forced
returns-clause-forced c = λ setup schedule fine. returning-forced setup (lawful c.every_table_holds.ensures setup.server) fine schedule
