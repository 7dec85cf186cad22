use Rattle.nut_monitor_loop.proofs.watching.watch.Given as goal

abbrev pub ghost-go_on : goal.ghost-go_on
ghost-go_on g a = record { config = a.monitor.now.config; first = a.monitor.now.content.configuration; start = a.world.now }
