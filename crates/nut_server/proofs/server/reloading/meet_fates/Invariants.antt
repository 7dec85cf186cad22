use Rattle.std.proofs.Common.{◌≡◌}
use Rattle.nut_server_spec.specs.machine.Machine.{fated}
use Rattle.nut_server.specs.inside.Fates.{fate_in}
use Rattle.nut_server.proofs.FatesMet.{met}
use Rattle.nut_server.proofs.server.reloading.meet_fates.Given as goal

abbrev pub invariant-loop-u : goal.invariant-loop-u
invariant-loop-u l = l.devices ≡ met (λ u. fated (fate_in l.reloading u)) l.u 0 l.fn.devices
