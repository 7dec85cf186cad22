use Rattle.nut_fleet.proofs.Lawful.{lawful}
use Rattle.nut_in_time.proofs.Rounding.{rounds-answer, rounds-keep_pace}
use Rattle.nut_in_time.proofs.Turning.{rounded-keep_pace}
use Rattle.nut_in_time.proofs.rounds_keep_pace.Goals as goal

pub returns-clause-answer : goal.returns-clause-answer
returns-clause-answer c = λ setup schedule fine. rounds-answer setup (lawful c.every_table_holds.ensures setup.server) fine schedule

pub returns-clause-keep : goal.returns-clause-keep
returns-clause-keep c = λ setup schedule fine. rounds-keep_pace setup (lawful c.every_table_holds.ensures setup.server) fine schedule

pub returns-clause-written : goal.returns-clause-written
returns-clause-written c = λ setup fine. rounded-keep_pace setup (lawful c.every_table_holds.ensures setup.server) fine
