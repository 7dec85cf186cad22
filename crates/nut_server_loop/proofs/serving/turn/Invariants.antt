use Rattle.nut_server_loop.proofs.serving.turn.Given as goal

abbrev pub ghost-hand_on : goal.ghost-hand_on
ghost-hand_on g a = g.since.first
