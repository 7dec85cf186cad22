use Rattle.std.proofs.Common.{◌+◌, ◌<◌, ◌∙◌, ap, ◌++◌, ◌∷◌, [], arith, sym, drop, length, length-append}
use Rattle.nut_server_spec.specs.Numbering.{kept_numbers}
use Rattle.nut_server.proofs.Renumbered.{kept_more, kept_same}
use Rattle.nut_server.proofs.numbering.Numbering.kept_by.Goals.{in-Some, in_default}
use Rattle.nut_server.proofs.numbering.Numbering.kept_by.Goals as goal

pub loop-place-preserved : goal.loop-place-preserved
loop-place-preserved c =
    let before = c.args.self.now in
    let upses = c.args.after.now.upses in
    let kept = c.loop-place.kept.items in
    let place = c.loop-place.place in
    let lt : place < length upses = omega (arith, c.loop-place-test.true, c.number_of_upses-place-end.ensures.len) in
    elim c.match-kept_at.branch [
      | in-Some w ↦
          let items = ap (λ k. k.items) w.kept-is ∙ w.push.ensures.items in (
            omega (arith, ap length items, length-append kept (w.in-Some.number ∷ []), c.loop-place.invariant.0),
            ap (λ ns. ns ++ kept_numbers before (drop (place + 1) upses)) items
                ∙ kept_more before upses place lt w.in-Some.number kept (sym w.in-Some.is ∙ c.kept_at.ensures) ∙ c.loop-place.invariant.1,
          )
      | in_default w ↦
          let items = ap (λ k. k.items) w.kept-is in (
            omega (arith, ap length items, c.loop-place.invariant.0),
            ap (λ ns. ns ++ kept_numbers before (drop (place + 1) upses)) items
                ∙ kept_same before upses place lt kept (sym w.in_default.is ∙ c.kept_at.ensures) ∙ c.loop-place.invariant.1,
          )
    ]
