use Rattle.std.proofs.Common.{[]}
use Rattle.nut_monitor_sockets.specs.inside.HandingLaws.{written_handed}
use Rattle.nut_monitor_sockets.proofs.InTurn.{still}
use Rattle.nut_monitor_sockets.proofs.mio_mon_world.MioMonWorldMonWorld.write.Goals as goal

pub returns-clause-ok : goal.returns-clause-ok
returns-clause-ok g c = (
  written_handed _ _ c.note_written.result c.args.i c.args.bytes.now (g.met.H.Herald.told_self c.args._monitor.now.config c.args.self.now.herald),
  ([], still _ _ c.offer-written.ensures.turns),
)

pub returns-clause-late : goal.returns-clause-late
returns-clause-late g c = c.note_written.ensures.late
