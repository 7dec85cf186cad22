use Rattle.std.proofs.Common.{◌≡◌, ◌-◌, suc, ◌∙◌, ap, arith, not, sym}
use Rattle.nut_server_spec.specs.Numbering.{is_to_cleared}
use Rattle.nut_server.specs.inside.Fates.{fate_in}
use Rattle.nut_server.proofs.Closing.{kept_there, removed_there}
use Rattle.nut_server.proofs.connections.Connections.close_cleared.Goals as goal

pub loop-place-preserved-then-clears : goal.loop-place-preserved-then-clears
loop-place-preserved-then-clears c =
    let fate = fate_in c.args.reloading.now in
    let place = c.loop-place.place in
    let next : place ≡ suc (place - 1) = omega (arith, c.loop-place-test.true) in
    let test = c.clears.ensures ∙ ap (is_to_cleared fate) c.login.ensures in
    let done = removed_there (λ k. not (is_to_cleared fate k.login)) (place - 1) place c.args.self.now c.loop-place.self c.at.result.now next c.loop-place.invariant.0 c.loop-place.invariant.1 c.at.ensures
    (ap not (sym test ∙ c.if-clears.true)) in
    (done.0, c.remove_at.ensures.items ∙ done.1)

pub loop-place-preserved : goal.loop-place-preserved
loop-place-preserved c =
    let fate = fate_in c.args.reloading.now in
    let place = c.loop-place.place in
    let next : place ≡ suc (place - 1) = omega (arith, c.loop-place-test.true) in
    let test = c.clears.ensures ∙ ap (is_to_cleared fate) c.login.ensures in
    kept_there (λ k. not (is_to_cleared fate k.login)) (place - 1) place c.args.self.now c.loop-place.self c.at.result.now next c.loop-place.invariant.0 c.loop-place.invariant.1 c.at.ensures
    (ap not (sym test ∙ c.if-clears.false))
