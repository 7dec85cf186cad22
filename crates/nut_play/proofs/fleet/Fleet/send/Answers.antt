use Rattle.std.proofs.Common.{◌<◌, length, map, OnErr, subst, sym, refl, ap, ◌∙◌}
use Rattle.nut_play.specs.Steps.{logged_of}
use Rattle.nut_play.specs.Kept.{Kept, ends_at}
use Rattle.nut_play.specs.machine.Next.{known_of, open_by, told_news, out_by, out_seat}
use Rattle.nut_play.specs.machine.Lacking.{SendLacks}
use Rattle.nut_play.specs.contracts.fleet.Fleet.{the_view}
use Rattle.nut_play.proofs.Written.{on-ok}
use Rattle.nut_play.proofs.Fleets.{known-there, link-there, fleet-written, log-same}
use Rattle.nut_play.proofs.fleet.Fleet.send.Goals as goal

pub returns-clause-fleet : goal.returns-clause-fleet
returns-clause-fleet c =
    rw (← c.self.view_is) (on-ok _ _ c.send.result (λ new. fleet-written (the_view c.self.inside) c.args.place.monitor c.index_mut.result.now (subst (λ (v : Kept). c.args.place.monitor < length v.seats) (sym c.self.view_is) c.requires.within) c.index_mut.ensures.value c.send.new.self (the_view c.self.inside).server (the_view c.self.inside).server (out_seat (the_view c.self.inside).server c.args.place.monitor c.args.place.link c.args.n) new refl) c.send.ensures.seat)

pub returns-clause-log : goal.returns-clause-log
returns-clause-log c =
    log-same c.send.result (map logged_of c.args.log.now.items) (map logged_of c.send.new.log.items) c.args.place.step
    (told_news (out_by c.args.place.monitor c.index_mut.result.now.monitor.content c.args.place.link c.args.n) c.index_mut.result.now.monitor.content)
    (told_news (out_by c.args.place.monitor (known_of c.args.self.now c.args.place.monitor) c.args.place.link c.args.n) (known_of c.args.self.now c.args.place.monitor))
    (ap (λ s. told_news (out_by c.args.place.monitor s c.args.place.link c.args.n) s) (known-there (the_view c.self.inside) c.args.place.monitor c.index_mut.result.now (subst (λ (v : Kept). c.args.place.monitor < length v.seats) (sym c.self.view_is) c.requires.within) c.index_mut.ensures.value)
    ∙ ap (λ (v : Kept). told_news (out_by c.args.place.monitor (known_of v c.args.place.monitor) c.args.place.link c.args.n) (known_of v c.args.place.monitor)) c.self.view_is)
    c.send.ensures.log

pub returns-clause-lack : goal.returns-clause-lack
returns-clause-lack c =
    rw (← c.self.view_is)
    (subst (λ e. OnErr c.send.result (SendLacks (open_by (the_view c.self.inside).server e) c.args.place.monitor (known_of (the_view c.self.inside) c.args.place.monitor) (out_by c.args.place.monitor (known_of (the_view c.self.inside) c.args.place.monitor) c.args.place.link c.args.n))) (link-there (the_view c.self.inside) c.args.place.monitor c.index_mut.result.now (subst (λ (v : Kept). c.args.place.monitor < length v.seats) (sym c.self.view_is) c.requires.within) c.index_mut.ensures.value c.args.place.link)
    (subst (λ s. OnErr c.send.result (SendLacks (open_by (the_view c.self.inside).server (ends_at c.index_mut.result.now.links c.args.place.link)) c.args.place.monitor s (out_by c.args.place.monitor s c.args.place.link c.args.n))) (known-there (the_view c.self.inside) c.args.place.monitor c.index_mut.result.now (subst (λ (v : Kept). c.args.place.monitor < length v.seats) (sym c.self.view_is) c.requires.within) c.index_mut.ensures.value) c.send.ensures.lack))
