use Rattle.std.proofs.Common.{◌≡◌, ◌≤◌, ◌&&◌, not, filter, length}
use Rattle.nut_server_spec.specs.Acceptance.{is_connected, supply_of}
use Rattle.nut_server_spec.specs.Numbering.{below}
use Rattle.nut_server_spec.specs.Reloading.{is_kept}
use Rattle.nut_server.specs.inside.Fates.{fate_in}
use Rattle.nut_server.proofs.server.reloading.drivers_that_end.Given as goal

abbrev pub invariant-loop-u : goal.invariant-loop-u
invariant-loop-u l =
    (length l.ended.items ≤ l.u) × (l.ended.items ≡ filter (λ u. is_connected (supply_of u l.devices) && not (is_kept (fate_in l.reloading u))) (below l.u))
