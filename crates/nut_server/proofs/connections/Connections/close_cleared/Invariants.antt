use Rattle.std.proofs.Common.{◌≡◌, ◌≤◌, length, not}
use Rattle.nut_server_spec.specs.Numbering.{is_to_cleared}
use Rattle.nut_server.specs.inside.Fates.{fate_in}
use Rattle.nut_server.proofs.Closing.{filtered_from}
use Rattle.nut_server.proofs.connections.Connections.close_cleared.Given as goal

abbrev pub invariant-loop-place : goal.invariant-loop-place
invariant-loop-place l =
    (l.place ≤ length l.initial.self) × (l.self ≡ filtered_from (λ k. not (is_to_cleared (fate_in l.reloading) k.login)) l.place l.initial.self)
