use Rattle.std.proofs.Common.{◌<◌, length, slice_get, OnErr, subst, sym, ap, ◌∙◌}
use Rattle.nut_play.specs.Kept.{Kept, links_in}
use Rattle.nut_play.specs.machine.Next.{is_played, told_by, reach_by, reach_seat}
use Rattle.nut_play.specs.machine.Lacking.{ServerLacks}
use Rattle.nut_play.specs.contracts.fleet.Fleet.{the_view}
use Rattle.nut_play.proofs.Written.{on-ok-two}
use Rattle.nut_play.proofs.Fleets.{if-ok, link-there, within-there, fleet-written}
use Rattle.nut_play.proofs.fleet.Fleet.reach.Goals as goal

pub reach-requires : goal.reach-requires
reach-requires c = record { within = within-there (the_view c.self.inside) c.args.m c.index_mut.result.now (subst (λ (v : Kept). c.args.m < length v.seats) (sym c.self.view_is) c.requires.within) c.index_mut.ensures.value c.args.i (subst (λ (v : Kept). c.args.i < length (links_in (slice_get v.seats c.args.m))) (sym c.self.view_is) c.requires.there) }

pub returns-clause-played : goal.returns-clause-played
returns-clause-played c =
    rw (← c.self.view_is) (if-ok _ _ c.reach.result (λ p e. e ∙ ap (λ x. is_played (reach_by (the_view c.self.inside).server x c.args.n)) (link-there (the_view c.self.inside) c.args.m c.index_mut.result.now (subst (λ (v : Kept). c.args.m < length v.seats) (sym c.self.view_is) c.requires.within) c.index_mut.ensures.value c.args.i)) c.reach.ensures.played)

pub returns-clause-fleet : goal.returns-clause-fleet
returns-clause-fleet c =
    rw (← c.self.view_is) (on-ok-two _ _ _ c.reach.result (λ new told. fleet-written (the_view c.self.inside) c.args.m c.index_mut.result.now (subst (λ (v : Kept). c.args.m < length v.seats) (sym c.self.view_is) c.requires.within) c.index_mut.ensures.value c.reach.new.self c.reach.new.server _ (reach_seat (the_view c.self.inside).server c.args.i c.args.n) new (told ∙ ap (λ e. told_by (reach_by (the_view c.self.inside).server e c.args.n) 0 (the_view c.self.inside).server) (link-there (the_view c.self.inside) c.args.m c.index_mut.result.now (subst (λ (v : Kept). c.args.m < length v.seats) (sym c.self.view_is) c.requires.within) c.index_mut.ensures.value c.args.i))) c.reach.ensures.seat c.reach.ensures.server)

pub returns-clause-lack : goal.returns-clause-lack
returns-clause-lack c =
    rw (← c.self.view_is) (subst (λ e. OnErr c.reach.result (ServerLacks (the_view c.self.inside).server (reach_by (the_view c.self.inside).server e c.args.n))) (link-there (the_view c.self.inside) c.args.m c.index_mut.result.now (subst (λ (v : Kept). c.args.m < length v.seats) (sym c.self.view_is) c.requires.within) c.index_mut.ensures.value c.args.i) c.reach.ensures.lack)
