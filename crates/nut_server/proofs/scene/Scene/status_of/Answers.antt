use Rattle.std.proofs.Common.{◌∙◌, ap, sym}
use Rattle.nut_server.proofs.Remembered.{found_all, not_here, nowhere, status_here}
use Rattle.nut_server.proofs.scene.Scene.status_of.Goals as goal

pub loop-device-init : goal.loop-device-init
loop-device-init c = found_all c.args.number c.self.inside.devices.now c.args.self.now.devices (ap (λ s. s.devices) c.self.view_is)

pub returns-in-Some : goal.returns-in-Some
returns-in-Some c =
    status_here c.args.number c.loop-device.device-index c.self.inside.devices.now c.device-item.result c.loop-device-test.true c.device-item.is
    c.args.self.now.devices c.in-Some.status c.loop-device.invariant (sym c.in-Some.is ∙ c.status_of.ensures)

pub loop-device-preserved : goal.loop-device-preserved
loop-device-preserved c =
    not_here c.args.number c.loop-device.device-index c.self.inside.devices.now c.device-item.result c.loop-device-test.true c.device-item.is
    (sym c.in_default.is ∙ c.status_of.ensures) ∙ c.loop-device.invariant

pub returns : goal.returns
returns c = nowhere c.args.number c.loop-device.device-index c.self.inside.devices.now c.args.self.now.devices c.loop-device-test.false c.loop-device.invariant
