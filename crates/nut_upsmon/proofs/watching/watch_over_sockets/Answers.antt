use Rattle.std.proofs.Common.{◌≡◌, subst, ap, ◌∙◌}
use Rattle.nut_upsmon.specs.Acts.{ClearedFlag, does, halt_of}
use Rattle.nut_upsmon.proofs.Acted.{cleared}
use Rattle.nut_upsmon.proofs.watching.watch_over_sockets.Goals as goal

pub begin_and_watch-requires-clause-cleared : goal.begin_and_watch-requires-clause-cleared
begin_and_watch-requires-clause-cleared g c =
    cleared (g.A.Actor.log c.args.actor) (g.A.Actor.log c.clear_flag.new.self) (g.A.Actor.log c.in_ok-world.world.herald.actor) c.args.first.monitor.config c.requires
    (subst (λ k. g.A.Actor.log c.clear_flag.new.self ≡ does (ClearedFlag (halt_of k).flag) (g.A.Actor.log c.args.actor)) c.config.ensures c.in_ok-clear_flag.ensures)
    (ap (λ h. g.A.Actor.log h.actor) c.in_ok-world.ensures.herald ∙ ap g.A.Actor.log c.new.ensures.actor)
