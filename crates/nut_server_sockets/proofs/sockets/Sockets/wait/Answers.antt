use Rattle.std.proofs.Common.{[], refl}
use Rattle.mio.specs.Events.{items}
use Rattle.nut_poll.specs.Queue.{reported}
use Rattle.nut_poll.specs.inside.TurnLaws.{heeds_as_before, heeds_on}
use Rattle.nut_server_sockets.proofs.HeedLemmas.{heeds_reported}
use Rattle.nut_server_sockets.proofs.sockets.Sockets.wait.Goals as goal

pub returns-clause-turns : goal.returns-clause-turns
returns-clause-turns g c =
    heeds_on [] [] c.args.self.now.rounds c.wait.new.self c.turn.new.self c.wait.ensures.heeds
    (heeds_as_before [] c.wait.new.self c.turn.new.self c.turn.ensures.comes c.turn.ensures.events)

pub returns-clause-heeds : goal.returns-clause-heeds
returns-clause-heeds g c =
    heeds_reported c.args.self.now (record c.args.self.now { rounds = c.turn.new.self; clients = c.note.new.clients; drivers = c.note.new.drivers })
    (reported (items c.wait.new.self.events)) c.wait.new.self.ready c.note.ensures c.wait.ensures.ready c.wait.ensures.heeds.0 c.turn.ensures.comes refl
