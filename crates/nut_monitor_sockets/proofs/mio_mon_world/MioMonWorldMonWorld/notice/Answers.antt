use Rattle.nut_poll.specs.inside.TurnLaws.{turns_self}
use Rattle.nut_monitor_sockets.proofs.mio_mon_world.MioMonWorldMonWorld.notice.Goals as goal

pub returns-clause-ok : goal.returns-clause-ok
returns-clause-ok g c = (c.tell.ensures, turns_self c.args.self.now.links.rounds)
