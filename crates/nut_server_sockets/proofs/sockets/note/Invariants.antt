use Rattle.std.proofs.Common.{map}
use Rattle.nut_poll.specs.Queue.{reported}
use Rattle.nut_server_sockets.specs.inside.Looking.{IsNoted}
use Rattle.nut_server_sockets.proofs.sockets.note.Given as goal

abbrev pub invariant-loop-event : goal.invariant-loop-event
invariant-loop-event l = IsNoted (reported (map (λ e. e.now) l.yielded)) l.fn.clients.sockets l.clients.sockets
