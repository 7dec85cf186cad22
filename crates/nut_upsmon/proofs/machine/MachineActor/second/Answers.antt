use Rattle.std.proofs.Common.{sym, subst}
use Rattle.nut_upsmon.specs.Reload.{MayReload}
use Rattle.nut_upsmon.specs.declared.beginning.Beginning.{Beginning}
use Rattle.nut_upsmon.proofs.machine.MachineActor.second.Goals as goal

pub returns-in-Ok-clause-may : goal.returns-in-Ok-clause-may
returns-in-Ok-clause-may g c =
    subst (λ (b : Beginning). MayReload c.args.monitor.now b.monitor.config) (sym c.report.ensures) c.in_ok-reload.ensures.may
