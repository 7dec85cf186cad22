use Rattle.std.proofs.Common.{rules, ◌≡◌, Some, None, slice_get, arith, below_more, refl, sym, ap, subst, ◌∙◌}
use Rattle.std.proofs.lemmas.Option.{slice_get_read, slice_get_within}
use Rattle.nut_conf.specs.declared.upsmon.MonConfig.{MonConfig}
use Rattle.nut_upsmon.specs.Reload.{IsReadyAt}
use Rattle.nut_upsmon.proofs.obstacle.first_obstacle.Goals as goal

pub loop-i-preserved : goal.loop-i-preserved
loop-i-preserved c =
    below_more _ _ c.loop-i.invariant (λ former at.
    let list : c.deref-line-items.result.now ≡ c.args.monitor.now.config.monitors.lines.items =
    c.deref-line-items.ensures.value ∙ ap (λ (m : MonConfig). m.monitors.lines.items) c.config.ensures in
    let found : slice_get c.deref-line-items.result.now c.loop-i.i ≡ Some c.line-item.result =
    slice_get_read c.deref-line-items.result.now _ c.loop-i.i c.line-item.result refl (omega (arith, c.loop-i-test.true, c.loop-i.auto.i-end)) c.line-item.is in
    let at' : slice_get c.deref-line-items.result.now c.loop-i.i ≡ Some former = ap (λ l. slice_get l c.loop-i.i) list ∙ at in
    let is : former ≡ c.line-item.result = cc in
    let none : c.hindrance_at.result ≡ None = search rules in
    subst (λ m. IsReadyAt c.loop-i.i m c.args.monitor.now c.args.config.now) (sym is) (c.hindrance_at.ensures none))

pub returns : goal.returns
returns c = λ _ i former at.
    let list : c.deref-line-items.result.now ≡ c.args.monitor.now.config.monitors.lines.items =
    c.deref-line-items.ensures.value ∙ ap (λ (m : MonConfig). m.monitors.lines.items) c.config.ensures in
    let at' : slice_get c.deref-line-items.result.now i ≡ Some former = ap (λ l. slice_get l i) list ∙ at in
    c.loop-i.invariant i
    (omega (arith, slice_get_within c.deref-line-items.result.now i former at', c.loop-i-test.false, c.loop-i.auto.i-end)) former at
