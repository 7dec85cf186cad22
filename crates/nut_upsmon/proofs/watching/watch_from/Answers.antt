use Rattle.std.proofs.Common.{ap}
use Rattle.nut_monitor_spec.specs.Content.{Content}
use Rattle.nut_upsmon.proofs.Coursing.{broken, some_did, whole}
use Rattle.nut_upsmon.proofs.watching.watch_from.Goals as goal

pub returns-clause-ok : goal.returns-clause-ok
returns-clause-ok g c =
    whole _ c.args.monitor.config _ _ c.watch.new.monitor c.watch.result (ap (λ (s : Content). s.configuration) c.requires.untold) c.watch.ensures.config
    c.watch.ensures.ok c.watch.ensures.told c.watch.ensures.phase c.watch.ensures.ended

pub returns-clause-err : goal.returns-clause-err
returns-clause-err g c =
    broken _ c.args.monitor.config _ _ c.watch.result _ (ap (λ (s : Content). s.configuration) c.requires.untold) c.watch.ensures.err c.watch.ensures.going

pub returns-clause-did : goal.returns-clause-did
returns-clause-did g c = some_did _ _ _ c.watch.result c.watch.ensures.ok c.watch.ensures.err
