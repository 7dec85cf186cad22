use Rattle.std.proofs.Common.{rules, ◌≡◌, true, ap, subst, ◌∙◌}
use Rattle.nut_upsmon.specs.Reload.{MayReload}
use Rattle.nut_upsmon.specs.declared.memory_machine.MemoryReload.{MemoryReload}
use Rattle.nut_upsmon.proofs.memory_machine.due.Goals as goal

pub returns : goal.returns
returns c =
    let may : c.may_reload.result ≡ true = search rules in
    let one : c.in_ok-first.first.now ≡ c.remove-beginning.result = search rules in
    subst (λ config. MayReload c.args.monitor.now config) (c.config.ensures ∙ ap (λ (r : MemoryReload). r.beginning.monitor.config) one)
    (c.may_reload.ensures may)
