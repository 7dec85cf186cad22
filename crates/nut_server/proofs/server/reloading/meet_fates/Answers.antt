use Rattle.std.proofs.Common.{◌∙◌, ap, arith}
use Rattle.std.proofs.Math.ListN.{get_or}
use Rattle.nut_server_spec.specs.machine.Machine.{fated}
use Rattle.nut_server.specs.inside.Fates.{fate_in}
use Rattle.nut_server.proofs.FatesMet.{met_all, met_step}
use Rattle.nut_server.proofs.server.reloading.meet_fates.Goals as goal

pub loop-u-preserved : goal.loop-u-preserved
loop-u-preserved c =
    met_step (λ u. fated (fate_in c.args.reloading.now u)) c.loop-u.devices c.args.devices.now c.loop-u.u c.index-devices-u.result c.meet.new.self c.loop-u-test.true c.loop-u.invariant
    (c.meet.ensures ∙ ap (λ fate. fated fate (get_or c.loop-u.devices c.loop-u.u c.index-devices-u.result)) c.fate_of.ensures)

pub returns : goal.returns
returns c = c.loop-u.invariant ∙ met_all (λ u. fated (fate_in c.args.reloading.now u)) c.loop-u.u 0 c.args.devices.now (omega (arith, c.loop-u-test.false))
