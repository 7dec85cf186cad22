use Rattle.std.proofs.Common.{◌≡◌, drop}
use Rattle.std.specs.Prelude.{find}
use Rattle.nut_server.specs.Seats.{is_stranger}
use Rattle.nut_server.proofs.connections.Connections.first_stranger.Given as goal

abbrev pub invariant-loop-index : goal.invariant-loop-index
invariant-loop-index l = find (is_stranger l.config.users) (drop l.index l.self) ≡ find (is_stranger l.config.users) l.self
