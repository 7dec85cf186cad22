use Rattle.nut_server_loop.proofs.serving.serve.Given as goal

abbrev pub ghost-go_on : goal.ghost-go_on
ghost-go_on g a = record { first = a.server.now.configuration; start = a.world.now }
