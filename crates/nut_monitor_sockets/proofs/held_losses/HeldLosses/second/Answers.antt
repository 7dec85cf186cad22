use Rattle.std.proofs.Common.{[], ◌++◌, map, sym, subst}
use Rattle.nut_monitor_sockets.specs.Handing.{StandFor, all, lost}
use Rattle.nut_monitor_sockets.specs.inside.HandingLaws.{none_handed}
use Rattle.nut_monitor_sockets.proofs.held_losses.HeldLosses.second.Goals as goal

pub returns-then-self-eq0 : goal.returns-then-self-eq0
returns-then-self-eq0 g c =
    let losses = map lost c.args.self.now.lines.items in
    (losses, c.tell_all.ensures.told, subst (λ l. StandFor (losses ++ map lost l) (losses ++ [])) (sym c.tell_all.ensures.none) all)

pub returns-else-self-eq0 : goal.returns-else-self-eq0
returns-else-self-eq0 g c = none_handed _ _ (g.met.H.Herald.told_self c.args.monitor.now.config c.args.herald.now)
