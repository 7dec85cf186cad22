use Rattle.nut_server_loop.proofs.serving.hand_on.Given as goal

abbrev pub ghost-settle_heard : goal.ghost-settle_heard
ghost-settle_heard g a = record { first = g.first; start = a.world.now }
