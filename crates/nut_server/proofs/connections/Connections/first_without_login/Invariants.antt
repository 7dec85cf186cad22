use Rattle.std.proofs.Common.{◌≡◌, drop}
use Rattle.std.specs.Prelude.{find}
use Rattle.nut_server.specs.Seats.{has_no_login}
use Rattle.nut_server.proofs.connections.Connections.first_without_login.Given as goal

abbrev pub invariant-loop-index : goal.invariant-loop-index
invariant-loop-index l = find has_no_login (drop l.index l.self) ≡ find has_no_login l.self
