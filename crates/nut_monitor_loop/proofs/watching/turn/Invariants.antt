use Rattle.nut_monitor_loop.proofs.watching.turn.Given as goal

abbrev pub ghost-hand_on : goal.ghost-hand_on
ghost-hand_on g a = g.since
