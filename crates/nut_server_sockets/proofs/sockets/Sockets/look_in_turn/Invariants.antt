use Rattle.std.proofs.Common.{◌≡◌, ℕ, List}
use Rattle.nut_poll.specs.Turns.{Heeds}
use Rattle.nut_server_sockets.specs.inside.Looking.{KeepsHeeded}
use Rattle.nut_server_sockets.specs.Seats.{KeepsSeats}
use Rattle.nut_server_sockets.proofs.sockets.Sockets.look_in_turn.Given as goal

abbrev pub invariant-loop : goal.invariant-loop
invariant-loop g l = ((looked : List ℕ) × Heeds looked l.fn.self.rounds l.self.rounds) × (l.self.rounds.seconds ≡ l.fn.self.rounds.seconds)
    × KeepsSeats l.fn.self.clients.sockets l.self.clients.sockets × KeepsHeeded l.fn.self l.self
