use Rattle.std.proofs.Common.{arith, sym, ◌∙◌, ap, subst, option_map, Some}
use Rattle.nut_server_spec.specs.laws.Laws.{IsRising}
use Rattle.nut_server.specs.inside.Inside.{numbers_of}
use Rattle.nut_server.specs.Settling.{IsNextUnsettled, settles}
use Rattle.nut_server.proofs.Entries.{as_many, sessions_rise, key_tells, nothing_found}
use Rattle.nut_server.proofs.Orderly.{next_is}
use Rattle.nut_server.proofs.Settled.{find_here, find_on, find_none}
use Rattle.nut_server.proofs.connections.Connections.first_unsettled.Goals as goal

pub returns-then-self-eq0 : goal.returns-then-self-eq0
returns-then-self-eq0 c =
    let rising = subst (λ ks. IsRising (numbers_of ks)) c.self.view_is (sessions_rise c.self.inside.slots c.self.inside.order.items c.self.invariant.named c.self.invariant.rising) in
    let found = nothing_found c.self.inside c.args.self.now c.args.least c.self.invariant c.self.view_is (omega (arith, c.if-self-eq0.true)) in
    subst (IsNextUnsettled c.args.self.now c.args.least) (ap (option_map (λ k. k.number)) found) (next_is c.args.least c.args.self.now rising)

pub returns-then-is_unsettled_from : goal.returns-then-is_unsettled_from
returns-then-is_unsettled_from c =
    let rising = subst (λ ks. IsRising (numbers_of ks)) c.self.view_is (sessions_rise c.self.inside.slots c.self.inside.order.items c.self.invariant.named c.self.invariant.rising) in
    let tells = key_tells c.self.inside c.args.self.now c.args.least c.loop-index.index c.index.result.now c.self.invariant c.self.view_is (omega (arith, as_many c.self.inside.slots c.self.inside.order.items c.args.self.now c.self.invariant.named c.self.view_is, c.self.inside.order.ok, c.len-index-end.ensures, c.loop-index-test.true)) c.index.ensures in
    let found = find_here (settles c.args.least) c.args.self.now c.loop-index.index tells.k tells.there (tells.settles ∙ sym c.if-is_unsettled_from.ensures) in
    subst (IsNextUnsettled c.args.self.now c.args.least) (ap (option_map (λ k. k.number)) (sym c.loop-index.invariant ∙ found) ∙ ap Some tells.number) (next_is c.args.least c.args.self.now rising)

pub loop-index-preserved : goal.loop-index-preserved
loop-index-preserved c =
    let tells = key_tells c.self.inside c.args.self.now c.args.least c.loop-index.index c.index.result.now c.self.invariant c.self.view_is (omega (arith, as_many c.self.inside.slots c.self.inside.order.items c.args.self.now c.self.invariant.named c.self.view_is, c.self.inside.order.ok, c.len-index-end.ensures, c.loop-index-test.true)) c.index.ensures in
    find_on (settles c.args.least) c.args.self.now c.loop-index.index tells.k tells.there (tells.settles ∙ sym c.if-is_unsettled_from.ensures) ∙ c.loop-index.invariant

pub returns : goal.returns
returns c =
    let rising = subst (λ ks. IsRising (numbers_of ks)) c.self.view_is (sessions_rise c.self.inside.slots c.self.inside.order.items c.self.invariant.named c.self.invariant.rising) in
    let none = find_none (settles c.args.least) c.args.self.now c.loop-index.index (omega (arith, as_many c.self.inside.slots c.self.inside.order.items c.args.self.now c.self.invariant.named c.self.view_is, c.self.inside.order.ok, c.len-index-end.ensures, c.loop-index-test.false)) in
    subst (IsNextUnsettled c.args.self.now c.args.least) (ap (option_map (λ k. k.number)) (sym c.loop-index.invariant ∙ none)) (next_is c.args.least c.args.self.now rising)
