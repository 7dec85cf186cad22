use Rattle.std.proofs.Common.{◌≡◌, [], None, length}
use Rattle.nut_monitor_loop.specs.Record.{waiting_of}
use Rattle.nut_monitor_loop.specs.Watched.{Watched}
use Rattle.nut_monitor_loop.specs.inside.Kept.{OnlyAt, StaysLate}
use Rattle.nut_monitor_loop.proofs.watching.flush.Given as goal

abbrev pub ghost-write_once : goal.ghost-write_once
ghost-write_once g a = g.since

abbrev pub invariant-loop-monitor : goal.invariant-loop-monitor
invariant-loop-monitor g l =
    record {
      same_count : g.W.MonWorld.fault_count l.world ≡ g.W.MonWorld.fault_count l.fn.world;
      watched : Watched g.since.first (g.W.MonWorld.did g.since.config g.since.start l.world) l.monitor.content None;
      only : OnlyAt l.i l.fn.monitor.content l.monitor.content;
      quiet : l.monitor.content.notices ≡ [];
      late : StaysLate (g.W.MonWorld.late l.fn.world) (g.W.MonWorld.late l.world);
      config : l.monitor.config ≡ g.since.config;
    }

abbrev pub decreases-loop-monitor : goal.decreases-loop-monitor
decreases-loop-monitor g l = length (waiting_of l.i l.monitor.content.watches)
