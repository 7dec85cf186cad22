use Rattle.nut_monitor_spec.proofs.Putting.{come-in-turn}
use Rattle.nut_monitor_spec.proofs.answers_come_in_turn.Goals as goal

pub returns : goal.returns
returns c = come-in-turn
