use Rattle.std.proofs.Common.{[]}
use Rattle.nut_monitor_sockets.proofs.InTurn.{still}
use Rattle.nut_monitor_sockets.proofs.mio_mon_world.MioMonWorld.leave.Goals as goal

pub returns-clause-turns : goal.returns-clause-turns
returns-clause-turns g c = ([], still c.args.self.now.links.rounds c.leave.new.self.rounds c.leave.ensures.turns)
