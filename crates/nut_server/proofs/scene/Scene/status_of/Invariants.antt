use Rattle.std.proofs.Common.{◌≡◌}
use Rattle.nut_server.proofs.Remembered.{found, found_from}
use Rattle.nut_server.proofs.scene.Scene.status_of.Given as goal

abbrev pub invariant-loop-device : goal.invariant-loop-device
invariant-loop-device l = found_from l.number l.device-index l.device-items ≡ found l.number l.self.devices
