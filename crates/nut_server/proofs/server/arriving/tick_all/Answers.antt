use Rattle.std.proofs.Common.{◌∙◌}
use Rattle.nut_server_spec.specs.machine.Machine.{ticked}
use Rattle.nut_server.proofs.FatesMet.{met_step, swept_all}
use Rattle.nut_server.proofs.server.arriving.tick_all.Goals as goal

pub loop-device-preserved : goal.loop-device-preserved
loop-device-preserved c =
    met_step (λ k. ticked c.args.max_age c.args.time) c.loop-device.devices c.args.devices.now c.loop-device.device-index c.device-item.result c.tick.new.self
    c.loop-device-test.true c.loop-device.invariant c.tick.ensures

pub returns : goal.returns
returns c = c.loop-device.invariant ∙ swept_all (ticked c.args.max_age c.args.time) c.loop-device.device-index 0 c.args.devices.now c.loop-device-test.false
