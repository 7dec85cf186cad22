use Rattle.std.proofs.Common.{◌<◌, length, map, OnErr, subst, sym, refl, ap, ◌∙◌}
use Rattle.nut_monitor.specs.Events.{event_of}
use Rattle.nut_play.specs.Steps.{logged_of}
use Rattle.nut_play.specs.Kept.{Kept}
use Rattle.nut_play.specs.machine.Next.{known_of, told_news, inform_by, hear_seat}
use Rattle.nut_play.specs.contracts.fleet.Fleet.{the_view}
use Rattle.nut_play.specs.machine.Lacking.{MonitorLacks}
use Rattle.nut_play.proofs.Written.{on-ok}
use Rattle.nut_play.proofs.Fleets.{known-there, fleet-written, log-same}
use Rattle.nut_play.proofs.fleet.Fleet.hear.Goals as goal

pub returns-clause-fleet : goal.returns-clause-fleet
returns-clause-fleet c =
    rw (← c.self.view_is) (on-ok _ _ c.hear.result (λ new. fleet-written (the_view c.self.inside) c.args.m c.index_mut.result.now (subst (λ (v : Kept). c.args.m < length v.seats) (sym c.self.view_is) c.requires.within) c.index_mut.ensures.value c.hear.new.self (the_view c.self.inside).server (the_view c.self.inside).server (hear_seat c.args.m (event_of c.args.event)) new refl) c.hear.ensures.seat)

pub returns-clause-log : goal.returns-clause-log
returns-clause-log c =
    log-same c.hear.result (map logged_of c.args.log.now.items) (map logged_of c.hear.new.log.items) c.args.step
    (told_news (inform_by c.args.m c.index_mut.result.now.monitor.content (event_of c.args.event)) c.index_mut.result.now.monitor.content)
    (told_news (inform_by c.args.m (known_of c.args.self.now c.args.m) (event_of c.args.event)) (known_of c.args.self.now c.args.m))
    (ap (λ s. told_news (inform_by c.args.m s (event_of c.args.event)) s) (known-there (the_view c.self.inside) c.args.m c.index_mut.result.now (subst (λ (v : Kept). c.args.m < length v.seats) (sym c.self.view_is) c.requires.within) c.index_mut.ensures.value)
    ∙ ap (λ (v : Kept). told_news (inform_by c.args.m (known_of v c.args.m) (event_of c.args.event)) (known_of v c.args.m)) c.self.view_is)
    c.hear.ensures.log

pub returns-clause-lack : goal.returns-clause-lack
returns-clause-lack c =
    rw (← c.self.view_is)
    (subst (λ s. OnErr c.hear.result (MonitorLacks c.args.m s (inform_by c.args.m s (event_of c.args.event))))
    (known-there (the_view c.self.inside) c.args.m c.index_mut.result.now (subst (λ (v : Kept). c.args.m < length v.seats) (sym c.self.view_is) c.requires.within) c.index_mut.ensures.value)
    c.hear.ensures.lack)
