use Rattle.std.proofs.Common.{◌≡◌, ◌≤◌, length, filter, take}
use Rattle.nut_server_spec.specs.Numbering.{is_to_cleared}
use Rattle.nut_server.specs.inside.Fates.{fate_in}
use Rattle.nut_server.specs.inside.Inside.{numbers_of}
use Rattle.nut_server.proofs.connections.Connections.cleared.Given as goal

abbrev pub invariant-loop-place : goal.invariant-loop-place
invariant-loop-place l =
    (length l.numbers.items ≤ l.place) × (l.numbers.items ≡ numbers_of (filter (λ k. is_to_cleared (fate_in l.reloading) k.login) (take l.place l.self)))
