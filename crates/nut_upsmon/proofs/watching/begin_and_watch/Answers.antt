use Rattle.std.proofs.Common.{subst}
use Rattle.nut_upsmon.specs.Acts.{Changed, IfTold, Readied, does, halt_of}
use Rattle.nut_upsmon.proofs.Acted.{begun}
use Rattle.nut_upsmon.proofs.watching.begin_and_watch.Goals as goal

pub watch_in_turn-requires-clause-begun : goal.watch_in_turn-requires-clause-begun
watch_in_turn-requires-clause-begun g c =
    begun (g.A.Actor.log c.args.world.now.herald.actor) (g.A.Actor.log c.begin.new.self.actor) c.args.first.monitor.config c.requires.cleared
    (subst (λ k. IfTold (g.A.Actor.log c.begin.new.self.actor) (does Changed (does (Readied (halt_of k)) (g.A.Actor.log c.args.world.now.herald.actor)))) c.config.ensures c.in_ok-begin.ensures.ok)
