use Rattle.std.proofs.Common.{◌<◌, length, slice_get, map, OnErr, subst, sym, ap, ◌∙◌}
use Rattle.nut_play.specs.Steps.{logged_of}
use Rattle.nut_play.specs.Kept.{Kept, links_in, ends_at}
use Rattle.nut_play.specs.machine.Next.{known_of, link_of, is_played, told_by, told_news, link_by, join_seat}
use Rattle.nut_play.specs.contracts.fleet.Fleet.{the_view}
use Rattle.nut_play.proofs.Written.{on-ok-two}
use Rattle.nut_play.proofs.Fleets.{if-ok, known-there, link-there, within-there, watch-there, fleet-written, log-same}
use Rattle.nut_play.proofs.fleet.Fleet.join.Goals as goal

pub join-requires-clause-within : goal.join-requires-clause-within
join-requires-clause-within c = within-there (the_view c.self.inside) c.args.place.monitor c.index_mut.result.now (subst (λ (v : Kept). c.args.place.monitor < length v.seats) (sym c.self.view_is) c.requires.within) c.index_mut.ensures.value c.args.place.link (subst (λ (v : Kept). c.args.place.link < length (links_in (slice_get v.seats c.args.place.monitor))) (sym c.self.view_is) c.requires.there)

pub join-requires-clause-there : goal.join-requires-clause-there
join-requires-clause-there c = watch-there (the_view c.self.inside) c.args.place.monitor c.index_mut.result.now (subst (λ (v : Kept). c.args.place.monitor < length v.seats) (sym c.self.view_is) c.requires.within) c.index_mut.ensures.value c.args.place.link (subst (λ (v : Kept). c.args.place.link < length (known_of v c.args.place.monitor).watches) (sym c.self.view_is) c.requires.watched)

pub returns-clause-played : goal.returns-clause-played
returns-clause-played c =
    rw (← c.self.view_is) (if-ok _ _ c.join.result (λ p e. e ∙ ap (λ s. is_played (link_by c.args.place.monitor (the_view c.self.inside).server s c.args.place.link (ends_at c.index_mut.result.now.links c.args.place.link))) (known-there (the_view c.self.inside) c.args.place.monitor c.index_mut.result.now (subst (λ (v : Kept). c.args.place.monitor < length v.seats) (sym c.self.view_is) c.requires.within) c.index_mut.ensures.value) ∙ ap (λ x. is_played (link_by c.args.place.monitor (the_view c.self.inside).server (known_of (the_view c.self.inside) c.args.place.monitor) c.args.place.link x)) (link-there (the_view c.self.inside) c.args.place.monitor c.index_mut.result.now (subst (λ (v : Kept). c.args.place.monitor < length v.seats) (sym c.self.view_is) c.requires.within) c.index_mut.ensures.value c.args.place.link)) c.join.ensures.played)

pub returns-clause-fleet : goal.returns-clause-fleet
returns-clause-fleet c =
    rw (← c.self.view_is) (on-ok-two _ _ _ c.join.result (λ new told. fleet-written (the_view c.self.inside) c.args.place.monitor c.index_mut.result.now (subst (λ (v : Kept). c.args.place.monitor < length v.seats) (sym c.self.view_is) c.requires.within) c.index_mut.ensures.value c.join.new.self c.join.new.server _ (join_seat (the_view c.self.inside).server c.args.place.monitor c.args.place.link) new (told ∙ ap (λ s. told_by (link_by c.args.place.monitor (the_view c.self.inside).server s c.args.place.link (ends_at c.index_mut.result.now.links c.args.place.link)) c.args.place.monitor (the_view c.self.inside).server) (known-there (the_view c.self.inside) c.args.place.monitor c.index_mut.result.now (subst (λ (v : Kept). c.args.place.monitor < length v.seats) (sym c.self.view_is) c.requires.within) c.index_mut.ensures.value) ∙ ap (λ x. told_by (link_by c.args.place.monitor (the_view c.self.inside).server (known_of (the_view c.self.inside) c.args.place.monitor) c.args.place.link x) c.args.place.monitor (the_view c.self.inside).server) (link-there (the_view c.self.inside) c.args.place.monitor c.index_mut.result.now (subst (λ (v : Kept). c.args.place.monitor < length v.seats) (sym c.self.view_is) c.requires.within) c.index_mut.ensures.value c.args.place.link))) c.join.ensures.seat c.join.ensures.server)

pub returns-clause-log : goal.returns-clause-log
returns-clause-log c =
    log-same c.join.result (map logged_of c.args.log.now.items) (map logged_of c.join.new.log.items) c.args.place.step
    (told_news (link_by c.args.place.monitor (the_view c.self.inside).server c.index_mut.result.now.monitor.content c.args.place.link (ends_at c.index_mut.result.now.links c.args.place.link)) c.index_mut.result.now.monitor.content)
    (told_news (link_by c.args.place.monitor c.args.self.now.server (known_of c.args.self.now c.args.place.monitor) c.args.place.link (link_of c.args.self.now c.args.place.monitor c.args.place.link)) (known_of c.args.self.now c.args.place.monitor))
    (ap (λ s. told_news (link_by c.args.place.monitor (the_view c.self.inside).server s c.args.place.link (ends_at c.index_mut.result.now.links c.args.place.link)) s) (known-there (the_view c.self.inside) c.args.place.monitor c.index_mut.result.now (subst (λ (v : Kept). c.args.place.monitor < length v.seats) (sym c.self.view_is) c.requires.within) c.index_mut.ensures.value)
    ∙ ap (λ x. told_news (link_by c.args.place.monitor (the_view c.self.inside).server (known_of (the_view c.self.inside) c.args.place.monitor) c.args.place.link x) (known_of (the_view c.self.inside) c.args.place.monitor)) (link-there (the_view c.self.inside) c.args.place.monitor c.index_mut.result.now (subst (λ (v : Kept). c.args.place.monitor < length v.seats) (sym c.self.view_is) c.requires.within) c.index_mut.ensures.value c.args.place.link)
    ∙ ap (λ (v : Kept). told_news (link_by c.args.place.monitor v.server (known_of v c.args.place.monitor) c.args.place.link (link_of v c.args.place.monitor c.args.place.link)) (known_of v c.args.place.monitor)) c.self.view_is)
    c.join.ensures.log

pub returns-clause-lack : goal.returns-clause-lack
returns-clause-lack c =
    subst (λ told. OnErr c.join.result (0 < length told))
    (ap (λ s. told_news (link_by c.args.place.monitor (the_view c.self.inside).server s c.args.place.link (ends_at c.index_mut.result.now.links c.args.place.link)) s) (known-there (the_view c.self.inside) c.args.place.monitor c.index_mut.result.now (subst (λ (v : Kept). c.args.place.monitor < length v.seats) (sym c.self.view_is) c.requires.within) c.index_mut.ensures.value)
    ∙ ap (λ x. told_news (link_by c.args.place.monitor (the_view c.self.inside).server (known_of (the_view c.self.inside) c.args.place.monitor) c.args.place.link x) (known_of (the_view c.self.inside) c.args.place.monitor)) (link-there (the_view c.self.inside) c.args.place.monitor c.index_mut.result.now (subst (λ (v : Kept). c.args.place.monitor < length v.seats) (sym c.self.view_is) c.requires.within) c.index_mut.ensures.value c.args.place.link)
    ∙ ap (λ (v : Kept). told_news (link_by c.args.place.monitor v.server (known_of v c.args.place.monitor) c.args.place.link (link_of v c.args.place.monitor c.args.place.link)) (known_of v c.args.place.monitor)) c.self.view_is)
    c.join.ensures.lack
