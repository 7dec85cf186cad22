use Rattle.nut_server_loop.proofs.serving.settle_heard.Given as goal

abbrev pub ghost-settle : goal.ghost-settle
ghost-settle g a = g.since
