use Rattle.std.proofs.Common.{◌<◌, length, slice_get, OnErr, subst, sym, ap, ◌∙◌}
use Rattle.std.specs.Prelude.{IsTrue}
use Rattle.nut_play.specs.Kept.{Kept, links_in, ends_at}
use Rattle.nut_play.specs.machine.Next.{known_of, linked_by, is_played, told_by, back_by, back_seat}
use Rattle.nut_play.specs.machine.Lacking.{back_grows}
use Rattle.nut_play.specs.contracts.fleet.Fleet.{the_view}
use Rattle.nut_play.proofs.Written.{on-ok-two}
use Rattle.nut_play.proofs.Fleets.{if-ok, known-there, link-there, within-there, fleet-written}
use Rattle.nut_play.proofs.fleet.Fleet.back.Goals as goal

pub back-requires : goal.back-requires
back-requires c = record { within = within-there (the_view c.self.inside) c.args.m c.index_mut.result.now (subst (λ (v : Kept). c.args.m < length v.seats) (sym c.self.view_is) c.requires.within) c.index_mut.ensures.value c.args.i (subst (λ (v : Kept). c.args.i < length (links_in (slice_get v.seats c.args.m))) (sym c.self.view_is) c.requires.there) }

pub returns-clause-played : goal.returns-clause-played
returns-clause-played c =
    rw (← c.self.view_is) (if-ok _ _ c.back.result (λ p e. e ∙ ap (λ x. is_played (back_by (the_view c.self.inside).server x c.args.n)) (link-there (the_view c.self.inside) c.args.m c.index_mut.result.now (subst (λ (v : Kept). c.args.m < length v.seats) (sym c.self.view_is) c.requires.within) c.index_mut.ensures.value c.args.i)) c.back.ensures.played)

pub returns-clause-fleet : goal.returns-clause-fleet
returns-clause-fleet c =
    rw (← c.self.view_is) (on-ok-two _ _ _ c.back.result (λ new told. fleet-written (the_view c.self.inside) c.args.m c.index_mut.result.now (subst (λ (v : Kept). c.args.m < length v.seats) (sym c.self.view_is) c.requires.within) c.index_mut.ensures.value c.back.new.self c.back.new.server _ (back_seat (the_view c.self.inside).server c.args.i c.args.n) new (told ∙ ap (λ e. told_by (back_by (the_view c.self.inside).server e c.args.n) 0 (the_view c.self.inside).server) (link-there (the_view c.self.inside) c.args.m c.index_mut.result.now (subst (λ (v : Kept). c.args.m < length v.seats) (sym c.self.view_is) c.requires.within) c.index_mut.ensures.value c.args.i))) c.back.ensures.seat c.back.ensures.server)

pub returns-clause-lack : goal.returns-clause-lack
returns-clause-lack c =
    rw (← c.self.view_is)
    (subst (λ e. OnErr c.back.result (IsTrue (back_grows (linked_by (known_of (the_view c.self.inside) c.args.m) c.args.i) (back_by (the_view c.self.inside).server e c.args.n)))) (link-there (the_view c.self.inside) c.args.m c.index_mut.result.now (subst (λ (v : Kept). c.args.m < length v.seats) (sym c.self.view_is) c.requires.within) c.index_mut.ensures.value c.args.i)
    (subst (λ s. OnErr c.back.result (IsTrue (back_grows (linked_by s c.args.i) (back_by (the_view c.self.inside).server (ends_at c.index_mut.result.now.links c.args.i) c.args.n)))) (known-there (the_view c.self.inside) c.args.m c.index_mut.result.now (subst (λ (v : Kept). c.args.m < length v.seats) (sym c.self.view_is) c.requires.within) c.index_mut.ensures.value) c.back.ensures.lack))
