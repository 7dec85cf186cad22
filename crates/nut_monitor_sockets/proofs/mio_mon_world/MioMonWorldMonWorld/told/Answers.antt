use Rattle.std.proofs.Common.{[]}
use Rattle.nut_poll.specs.inside.TurnLaws.{turns_on}
use Rattle.nut_monitor_sockets.proofs.mio_mon_world.MioMonWorldMonWorld.told.Goals as goal

pub returns-in-LinkBytes-clause-did : goal.returns-in-LinkBytes-clause-did
returns-in-LinkBytes-clause-did g c = λ w before awaits. (
  awaits.0,
  turns_on w.links.rounds c.args.self.now.links.rounds c.told.new.self.rounds awaits.1 ([], c.told.ensures),
)
