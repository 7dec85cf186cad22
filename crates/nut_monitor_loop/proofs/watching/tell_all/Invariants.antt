use Rattle.std.proofs.Common.{◌≡◌, None, length}
use Rattle.nut_monitor_loop.specs.Watched.{Watched}
use Rattle.nut_monitor_loop.specs.inside.Kept.{KeepsLate}
use Rattle.nut_monitor_loop.proofs.watching.tell_all.Given as goal

abbrev pub ghost-tell : goal.ghost-tell
ghost-tell g a = g.since

abbrev pub invariant-loop-notice : goal.invariant-loop-notice
invariant-loop-notice g l =
    record {
      same_count : g.W.MonWorld.fault_count l.world ≡ g.W.MonWorld.fault_count l.fn.world;
      watched : Watched g.since.first (g.W.MonWorld.did g.since.config g.since.start l.world) l.monitor.content None;
      watches : l.monitor.content.watches ≡ l.fn.monitor.content.watches;
      late : KeepsLate (g.W.MonWorld.late l.fn.world) (g.W.MonWorld.late l.world);
      config : l.monitor.config ≡ g.since.config;
    }

abbrev pub decreases-loop-notice : goal.decreases-loop-notice
decreases-loop-notice g l = length l.monitor.content.notices
