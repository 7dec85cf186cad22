use Rattle.nut_fleet.proofs.Lawful.{lawful}
use Rattle.nut_in_time.proofs.CutOff.{cut_off-stop, none-begins_on_line, nothing-heard}
use Rattle.nut_in_time.proofs.Stale.{only-shown, only-shown_heard}
use Rattle.nut_in_time.proofs.cut_off_machines_stop.Goals as goal

pub returns-clause-stops : goal.returns-clause-stops
returns-clause-stops c = cut_off-stop

pub returns-clause-goes_on : goal.returns-clause-goes_on
returns-clause-goes_on c = none-begins_on_line

pub returns-clause-lost : goal.returns-clause-lost
returns-clause-lost c = nothing-heard

pub returns-clause-shown : goal.returns-clause-shown
returns-clause-shown c = λ setup schedule fine. only-shown_heard setup (lawful c.every_table_holds.ensures setup.server) fine schedule

pub returns-clause-watched : goal.returns-clause-watched
returns-clause-watched c = only-shown
