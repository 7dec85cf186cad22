use Rattle.std.proofs.Common.{rules, ◌≡◌, Some, None, sym, subst, ◌∙◌}
use Rattle.std.specs.Prelude.{IfSome}
use Rattle.nut_upsmon.specs.Reload.{AreAtRest, MayReload}
use Rattle.nut_upsmon.specs.declared.reloader.Reload.{Reload}
use Rattle.nut_upsmon.proofs.reloader.UpsmonReloader.take_waiting.Goals as goal

pub returns-in_default-clause-may : goal.returns-in_default-clause-may
returns-in_default-clause-may g c =
    let reload = c.in_ok-as_ref.field-0.now in
    let none : c.first_obstacle.result ≡ None = search rules in
    let waits : c.self.inside.waiting ≡ Some reload = search rules in
    let taken : c.take.result ≡ Some reload = c.take.ensures.value ∙ waits in
    let may : MayReload c.args.monitor.now reload.beginning.monitor.config =
    (c.requires, subst (λ config. AreAtRest c.args.monitor.now config) c.config.ensures (c.first_obstacle.ensures none)) in
    subst (λ r. IfSome r (λ (reload : Reload). MayReload c.args.monitor.now reload.beginning.monitor.config)) (sym taken) may
