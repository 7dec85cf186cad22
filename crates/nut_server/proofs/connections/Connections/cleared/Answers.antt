use Rattle.std.proofs.Common.{◌∙◌, ap, ◌++◌, ◌∷◌, [], arith, length, length-append, sym}
use Rattle.nut_server_spec.specs.Numbering.{is_to_cleared}
use Rattle.nut_server.specs.inside.Fates.{fate_in}
use Rattle.nut_server.proofs.Closing.{numbered_more, numbered_same}
use Rattle.nut_server.proofs.connections.Connections.cleared.Goals.{then-clears, else-clears}
use Rattle.nut_server.proofs.connections.Connections.cleared.Goals as goal

pub loop-place-preserved : goal.loop-place-preserved
loop-place-preserved c =
    let fate = fate_in c.args.reloading.now in
    let numbers = c.loop-place.numbers.items in
    let k = c.at-connection.result.now in
    let test = c.clears.ensures ∙ ap (is_to_cleared fate) c.login.ensures in
    elim c.if-clears.branch [
      | then-clears w ↦
          let pushed = ap (λ n. n.items) w.numbers-is ∙ w.push.ensures.items ∙ ap (λ n. numbers ++ n ∷ []) w.number.ensures in (
            omega (arith, ap length pushed, length-append numbers (k.number ∷ []), c.loop-place.invariant.0),
            pushed ∙ numbered_more (λ k. is_to_cleared fate k.login) c.loop-place.place c.args.self.now k numbers c.at-connection.ensures (sym test ∙ w.if-clears.true) c.loop-place.invariant.1,
          )
      | else-clears w ↦
          let same = ap (λ n. n.items) w.numbers-is in (
            omega (arith, ap length same, c.loop-place.invariant.0),
            same ∙ numbered_same (λ k. is_to_cleared fate k.login) c.loop-place.place c.args.self.now k numbers c.at-connection.ensures (sym test ∙ w.if-clears.false) c.loop-place.invariant.1,
          )
    ]
