use Rattle.nut_server_sockets.specs.inside.TurnLaws.{goes_on}
use Rattle.nut_server_sockets.proofs.mio_world.MioWorldWorld.told.Goals as goal

pub returns-clause-reached : goal.returns-clause-reached
returns-clause-reached g c w before = goes_on w.sockets c.args.self.now.sockets c.told.new.self before c.told.ensures.goes
