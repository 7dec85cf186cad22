use Rattle.nut_monitor_loop.proofs.watching.round.Given as goal

abbrev pub ghost-settle_links : goal.ghost-settle_links
ghost-settle_links g a = g.since

abbrev pub ghost-tell_all : goal.ghost-tell_all
ghost-tell_all g a = g.since

abbrev pub ghost-turn : goal.ghost-turn
ghost-turn g a = g.since
