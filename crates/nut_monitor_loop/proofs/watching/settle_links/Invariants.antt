use Rattle.std.proofs.Common.{◌≡◌, ◌<◌, ◌-◌, ℕ, [], None, length}
use Rattle.nut_monitor_loop.specs.Record.{IsSettled}
use Rattle.nut_monitor_loop.specs.Watched.{Watched}
use Rattle.nut_monitor_loop.proofs.watching.settle_links.Given as goal

abbrev pub ghost-flush : goal.ghost-flush
ghost-flush g a = g.since

abbrev pub invariant-loop-i : goal.invariant-loop-i
invariant-loop-i g l =
    record {
      same_count : g.W.MonWorld.fault_count l.world ≡ g.W.MonWorld.fault_count l.fn.world;
      watched : Watched g.since.first (g.W.MonWorld.did g.since.config g.since.start l.world) l.monitor.content None;
      as_many : l.lines ≡ length l.monitor.content.watches;
      settled : (j : ℕ) → j < l.i → IsSettled (g.W.MonWorld.late l.world) l.monitor.content.watches j;
      quiet : l.monitor.content.notices ≡ [];
      config : l.monitor.config ≡ g.since.config;
    }

abbrev pub decreases-loop-i : goal.decreases-loop-i
decreases-loop-i g l = l.lines - l.i
