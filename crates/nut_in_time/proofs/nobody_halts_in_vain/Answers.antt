use Rattle.nut_fleet.proofs.Lawful.{lawful}
use Rattle.nut_in_time.proofs.Bearing.{none-begins_later, none-begins_any_more, none-begins}
use Rattle.nut_in_time.proofs.nobody_halts_in_vain.Goals as goal

pub returns-clause-later : goal.returns-clause-later
returns-clause-later c = λ setup schedule fine. none-begins_later setup (lawful c.every_table_holds.ensures setup.server) fine schedule

pub returns-clause-at_all : goal.returns-clause-at_all
returns-clause-at_all c = λ setup schedule fine. none-begins setup (lawful c.every_table_holds.ensures setup.server) fine schedule

pub returns-clause-any_more : goal.returns-clause-any_more
returns-clause-any_more c = λ setup schedule fine. none-begins_any_more setup (lawful c.every_table_holds.ensures setup.server) fine schedule
