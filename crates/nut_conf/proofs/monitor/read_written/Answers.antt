use Rattle.std.proofs.Common.{arith}
use Rattle.nut_conf.specs.Target.{target_view}
use Rattle.nut_conf.proofs.TargetLemmas.{monitored-short}
use Rattle.nut_conf.proofs.monitor.read_written.Goals as goal

pub unreachable-requires : goal.unreachable-requires
unreachable-requires c =
    omega (arith, monitored-short c.args.bytes.now (target_view c.in_ok-target.target) (c.in_ok-target.ensures.reads), c.in-Err.ensures {u = tt})
