use Rattle.std.proofs.Common.{◌<◌, length, OnErr, subst, sym}
use Rattle.nut_play.specs.Kept.{Seat, no_ends}
use Rattle.nut_play.specs.machine.Next.{open_by, out_by}
use Rattle.nut_play.specs.machine.Lacking.{SendLacks}
use Rattle.nut_play.specs.contracts.seat.Seat.{the_view}
use Rattle.nut_play.proofs.Places.{read-at}
use Rattle.nut_play.proofs.Written.{on-ok-two, out-written}
use Rattle.nut_play.proofs.seat.Seat.send.Goals as goal

pub returns-clause-seat : goal.returns-clause-seat
returns-clause-seat c =
    let lt : c.args.place.link < length (the_view c.self.inside).links = subst (λ (v : Seat). c.args.place.link < length v.links) (sym c.self.view_is) c.requires.within in
    rw (← c.self.view_is) (on-ok-two _ _ _ c.send.result (out-written c.args.server.now c.args.place.link c.args.n (the_view c.self.inside) c.index_mut.result.now c.send.new.self lt c.index_mut.ensures.value c.args.place.monitor c.send.new.monitor) c.send.ensures.monitor c.send.ensures.link)

pub returns-clause-lack : goal.returns-clause-lack
returns-clause-lack c =
    let lt : c.args.place.link < length (the_view c.self.inside).links = subst (λ (v : Seat). c.args.place.link < length v.links) (sym c.self.view_is) c.requires.within in
    rw (← c.self.view_is) (subst (λ e. OnErr c.send.result (SendLacks (open_by c.args.server.now e) c.args.place.monitor (the_view c.self.inside).monitor.content (out_by c.args.place.monitor (the_view c.self.inside).monitor.content c.args.place.link c.args.n))) (sym (read-at c.args.place.link (the_view c.self.inside).links c.index_mut.result.now no_ends lt c.index_mut.ensures.value)) c.send.ensures.lack)
