-- Turns that are taken one after the other.
use Rattle.nut_poll.specs.inside.TurnLaws.{turns_on}
use Rattle.nut_server_sockets.specs.Turns.{GoesOn}
use Rattle.nut_server_sockets.specs.declared.sockets.Sockets.{Sockets}

pub goes_on : (a b c : Sockets) → GoesOn a b → GoesOn b c → GoesOn a c
goes_on a b c first then = (turns_on a.rounds b.rounds c.rounds first.0 then.0, λ key heeded. then.1 key (first.1 key heeded))
