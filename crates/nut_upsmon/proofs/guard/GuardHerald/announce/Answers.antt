use Rattle.std.proofs.Common.{refl}
use Rattle.nut_upsmon.specs.inside.Telling.{told_one}
use Rattle.nut_upsmon.proofs.Acted.{told_ready}
use Rattle.nut_upsmon.proofs.guard.GuardHerald.announce.Goals as goal

pub returns : goal.returns
returns g c = (
  told_ready _ _ _ _ c.args.monitor.now.config c.args.monitor.now.config c.args.notice c.tell.ensures refl,
  told_one _ _ c.args.monitor.now.config c.args.notice c.tell.ensures,
)
