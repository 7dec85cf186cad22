use Rattle.std.proofs.Common.{◌≡◌, drop}
use Rattle.std.specs.Prelude.{find}
use Rattle.nut_server.specs.Settling.{settles}
use Rattle.nut_server.proofs.connections.Connections.first_unsettled.Given as goal

abbrev pub invariant-loop-index : goal.invariant-loop-index
invariant-loop-index l = find (settles l.least) (drop l.index l.self) ≡ find (settles l.least) l.self
