use Rattle.std.proofs.Common.{◌≡◌, take}
use Rattle.nut_server.proofs.Logins.{logins}
use Rattle.nut_server.proofs.connections.Connections.logged_in.Given as goal

abbrev pub invariant-loop-index : goal.invariant-loop-index
invariant-loop-index l = l.count ≡ logins l.u (take l.index l.self)
