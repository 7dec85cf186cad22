use Rattle.std.proofs.Common.{◌≡◌, ◌&&◌, ◌∙◌, ◌∷◌, [], Some, ap, ap₂, arith, length, length-append, not, refl, sym}
use Rattle.std.proofs.lemmas.Option.{slice_get_read}
use Rattle.nut_server_spec.specs.Acceptance.{is_connected, supply_of}
use Rattle.nut_server_spec.specs.Reloading.{is_kept}
use Rattle.nut_server.specs.inside.Fates.{fate_in}
use Rattle.nut_server.proofs.Reloaded.{fails_next, passes_next}
use Rattle.nut_server.proofs.server.reloading.drivers_that_end.Goals.{then-ends, else-ends}
use Rattle.nut_server.proofs.server.reloading.drivers_that_end.Goals as goal

pub loop-u-preserved : goal.loop-u-preserved
loop-u-preserved c =
    let devices = c.args.devices.now in
    let fate = fate_in c.args.reloading.now in
    let u = c.loop-u.u in
    let ended = c.loop-u.ended.items in
    let d = c.index-devices-u.result in
    let there : supply_of u devices ≡ Some d = slice_get_read devices (length devices) u d refl c.loop-u-test.true c.index-devices-u.is in
    let test : c.ends.result ≡ (is_connected (supply_of u devices) && not (is_kept (fate u))) =
    c.ends.ensures ∙ ap₂ (λ o f. is_connected o && not (is_kept f)) (sym there) c.fate_of.ensures
    in
    elim c.if-ends.branch [
      | then-ends w ↦
          let pushed = ap (λ n. n.items) w.ended-is ∙ w.push.ensures.items in (
            omega (arith, ap length pushed, length-append ended (u ∷ []), c.loop-u.invariant.0),
            pushed ∙ passes_next (λ u. is_connected (supply_of u devices) && not (is_kept (fate u))) u ended c.loop-u.invariant.1 (sym test ∙ w.if-ends.true),
          )
      | else-ends w ↦
          let same = ap (λ n. n.items) w.ended-is in (
            omega (arith, ap length same, c.loop-u.invariant.0),
            same ∙ fails_next (λ u. is_connected (supply_of u devices) && not (is_kept (fate u))) u ended c.loop-u.invariant.1 (sym test ∙ w.if-ends.false),
          )
    ]
