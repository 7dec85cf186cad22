use Rattle.std.proofs.Common.{◌≡◌, suc, ◌+◌, ◌∷◌, ◌++◌, [], ap, arith, ◌∙◌, length}
use Rattle.nut_server_spec.specs.Numbering.{below}
use Rattle.nut_server_spec.proofs.Places.{below-length}
use Rattle.nut_server.proofs.numbering.first_numbers.Goals as goal

pub loop-number-init : goal.loop-number-init
loop-number-init c = c.new-numbers.ensures

pub push-requires : goal.push-requires
push-requires c = omega (arith, c.requires, c.loop-number-test.true, ap length c.loop-number.invariant, below-length c.loop-number.number)

pub loop-number-preserved : goal.loop-number-preserved
loop-number-preserved c =
    let next : suc c.loop-number.number ≡ c.loop-number.number + 1 = omega arith in
    c.push.ensures.items ∙ ap (λ ns. ns ++ c.loop-number.number ∷ []) c.loop-number.invariant ∙ ap below next

pub returns : goal.returns
returns c =
    let end : c.loop-number.number ≡ c.args.count = omega (arith, c.loop-number-test.false, c.loop-number.auto.number-end) in
    c.loop-number.invariant ∙ ap below end
