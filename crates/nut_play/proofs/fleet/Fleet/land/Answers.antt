use Rattle.std.proofs.Common.{◌<◌, length, slice_get, map, OnErr, subst, sym, refl, ap, ◌∙◌}
use Rattle.nut_play.specs.Steps.{logged_of}
use Rattle.nut_play.specs.Kept.{Kept, links_in, ends_at}
use Rattle.nut_play.specs.machine.Next.{known_of, link_of, is_played, told_news, land_by, land_seat}
use Rattle.nut_play.specs.machine.Lacking.{MonitorLacks}
use Rattle.nut_play.specs.contracts.fleet.Fleet.{the_view}
use Rattle.nut_play.proofs.Written.{on-ok}
use Rattle.nut_play.proofs.Fleets.{if-ok, known-there, link-there, within-there, fleet-written, log-same}
use Rattle.nut_play.proofs.fleet.Fleet.land.Goals as goal

pub land-requires : goal.land-requires
land-requires c = record { within = within-there (the_view c.self.inside) c.args.place.monitor c.index_mut.result.now (subst (λ (v : Kept). c.args.place.monitor < length v.seats) (sym c.self.view_is) c.requires.within) c.index_mut.ensures.value c.args.place.link (subst (λ (v : Kept). c.args.place.link < length (links_in (slice_get v.seats c.args.place.monitor))) (sym c.self.view_is) c.requires.there) }

pub returns-clause-played : goal.returns-clause-played
returns-clause-played c =
    rw (← c.self.view_is) (if-ok _ _ c.land.result (λ p e. e ∙ ap (λ s. is_played (land_by c.args.place.monitor s c.args.place.link (ends_at c.index_mut.result.now.links c.args.place.link) c.args.n)) (known-there (the_view c.self.inside) c.args.place.monitor c.index_mut.result.now (subst (λ (v : Kept). c.args.place.monitor < length v.seats) (sym c.self.view_is) c.requires.within) c.index_mut.ensures.value) ∙ ap (λ x. is_played (land_by c.args.place.monitor (known_of (the_view c.self.inside) c.args.place.monitor) c.args.place.link x c.args.n)) (link-there (the_view c.self.inside) c.args.place.monitor c.index_mut.result.now (subst (λ (v : Kept). c.args.place.monitor < length v.seats) (sym c.self.view_is) c.requires.within) c.index_mut.ensures.value c.args.place.link)) c.land.ensures.played)

pub returns-clause-fleet : goal.returns-clause-fleet
returns-clause-fleet c =
    rw (← c.self.view_is) (on-ok _ _ c.land.result (λ new. fleet-written (the_view c.self.inside) c.args.place.monitor c.index_mut.result.now (subst (λ (v : Kept). c.args.place.monitor < length v.seats) (sym c.self.view_is) c.requires.within) c.index_mut.ensures.value c.land.new.self (the_view c.self.inside).server (the_view c.self.inside).server (land_seat c.args.place.monitor c.args.place.link c.args.n) new refl) c.land.ensures.seat)

pub returns-clause-log : goal.returns-clause-log
returns-clause-log c =
    log-same c.land.result (map logged_of c.args.log.now.items) (map logged_of c.land.new.log.items) c.args.place.step
    (told_news (land_by c.args.place.monitor c.index_mut.result.now.monitor.content c.args.place.link (ends_at c.index_mut.result.now.links c.args.place.link) c.args.n) c.index_mut.result.now.monitor.content)
    (told_news (land_by c.args.place.monitor (known_of c.args.self.now c.args.place.monitor) c.args.place.link (link_of c.args.self.now c.args.place.monitor c.args.place.link) c.args.n) (known_of c.args.self.now c.args.place.monitor))
    (ap (λ s. told_news (land_by c.args.place.monitor s c.args.place.link (ends_at c.index_mut.result.now.links c.args.place.link) c.args.n) s) (known-there (the_view c.self.inside) c.args.place.monitor c.index_mut.result.now (subst (λ (v : Kept). c.args.place.monitor < length v.seats) (sym c.self.view_is) c.requires.within) c.index_mut.ensures.value)
    ∙ ap (λ x. told_news (land_by c.args.place.monitor (known_of (the_view c.self.inside) c.args.place.monitor) c.args.place.link x c.args.n) (known_of (the_view c.self.inside) c.args.place.monitor)) (link-there (the_view c.self.inside) c.args.place.monitor c.index_mut.result.now (subst (λ (v : Kept). c.args.place.monitor < length v.seats) (sym c.self.view_is) c.requires.within) c.index_mut.ensures.value c.args.place.link)
    ∙ ap (λ (v : Kept). told_news (land_by c.args.place.monitor (known_of v c.args.place.monitor) c.args.place.link (link_of v c.args.place.monitor c.args.place.link) c.args.n) (known_of v c.args.place.monitor)) c.self.view_is)
    c.land.ensures.log

pub returns-clause-lack : goal.returns-clause-lack
returns-clause-lack c =
    rw (← c.self.view_is)
    (subst (λ e. OnErr c.land.result (MonitorLacks c.args.place.monitor (known_of (the_view c.self.inside) c.args.place.monitor) (land_by c.args.place.monitor (known_of (the_view c.self.inside) c.args.place.monitor) c.args.place.link e c.args.n))) (link-there (the_view c.self.inside) c.args.place.monitor c.index_mut.result.now (subst (λ (v : Kept). c.args.place.monitor < length v.seats) (sym c.self.view_is) c.requires.within) c.index_mut.ensures.value c.args.place.link)
    (subst (λ s. OnErr c.land.result (MonitorLacks c.args.place.monitor s (land_by c.args.place.monitor s c.args.place.link (ends_at c.index_mut.result.now.links c.args.place.link) c.args.n))) (known-there (the_view c.self.inside) c.args.place.monitor c.index_mut.result.now (subst (λ (v : Kept). c.args.place.monitor < length v.seats) (sym c.self.view_is) c.requires.within) c.index_mut.ensures.value) c.land.ensures.lack))
