use Rattle.nut_server_sockets.specs.inside.Looking.{IsApart}
use Rattle.nut_server_sockets.proofs.sockets.Sockets.tell_changes.Given as goal

abbrev pub invariant-loop-u : goal.invariant-loop-u
invariant-loop-u l = IsApart l.fn.self l.self
