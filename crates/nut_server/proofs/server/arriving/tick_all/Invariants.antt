use Rattle.std.proofs.Common.{◌≡◌}
use Rattle.nut_server_spec.specs.machine.Machine.{ticked}
use Rattle.nut_server.proofs.FatesMet.{swept}
use Rattle.nut_server.proofs.server.arriving.tick_all.Given as goal

abbrev pub invariant-loop-device : goal.invariant-loop-device
invariant-loop-device l = l.devices ≡ swept (ticked l.max_age l.time) l.device-index l.fn.devices
