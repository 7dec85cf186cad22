use Rattle.nut_fleet.proofs.Lawful.{lawful}
use Rattle.nut_in_time.proofs.Redundant.{one-is_enough, last-counts}
use Rattle.nut_in_time.proofs.the_last_ups_counts.Goals as goal

pub returns-clause-one : goal.returns-clause-one
returns-clause-one c = λ setup schedule fine. one-is_enough setup (lawful c.every_table_holds.ensures setup.server) fine schedule

pub returns-clause-all : goal.returns-clause-all
returns-clause-all c = λ setup pace m start middle schedule fine. last-counts setup (lawful c.every_table_holds.ensures setup.server) fine pace m start middle schedule
