use Rattle.std.proofs.Common.{[], refl}
use Rattle.nut_poll.specs.inside.TurnLaws.{heeds_as_before, heeds_on}
use Rattle.nut_server_sockets.proofs.sockets.Sockets.look_at_listener.Goals as goal

pub returns-in-Ok-clause-look : goal.returns-in-Ok-clause-look
returns-in-Ok-clause-look c token =
    let start = c.args.self.now.rounds in
    let queued = record start { ready = c.insert.new.self } in
    let look = c.admit.ensures.look token in
    record {
      may = look.may;
      goes_on = look.goes_on;
      given = look.given;
      seats = look.seats;
      turns = (heeds_on [] [] start queued c.admit.new.self.rounds (heeds_as_before [] start queued c.insert.ensures.comes refl) look.turns.0, look.turns.1);
      again = look.again;
    }
