use Rattle.nut_server_sockets.specs.inside.Looking.{OnlyQueues}
use Rattle.nut_server_sockets.proofs.sockets.Sockets.call_drivers.Given as goal

abbrev pub invariant-loop-u : goal.invariant-loop-u
invariant-loop-u l = OnlyQueues l.fn.self l.self
