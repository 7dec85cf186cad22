use Rattle.std.proofs.Common.{[]}
use Rattle.nut_monitor_sockets.specs.inside.HandingLaws.{none_handed}
use Rattle.nut_monitor_sockets.proofs.InTurn.{still}
use Rattle.nut_monitor_sockets.proofs.mio_mon_world.MioMonWorldMonWorld.close.Goals as goal

pub returns-clause-ok : goal.returns-clause-ok
returns-clause-ok g c = (none_handed _ _ (g.met.H.Herald.told_self c.args._monitor.now.config c.args.self.now.herald), ([], still _ _ c.close.ensures.turns))
