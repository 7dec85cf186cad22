use Rattle.nut_server_loop.proofs.settling.settle.Given as goal

abbrev pub ghost-flush : goal.ghost-flush
ghost-flush g a = g.since
