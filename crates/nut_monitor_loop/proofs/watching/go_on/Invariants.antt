use Rattle.std.proofs.Common.{◌≡◌, None}
use Rattle.nut_monitor_loop.specs.Watched.{Watched}
use Rattle.nut_monitor_loop.proofs.watching.go_on.Given as goal

abbrev pub ghost-round : goal.ghost-round
ghost-round g a = g.since

abbrev pub invariant-loop : goal.invariant-loop
invariant-loop g l =
    record {
      same_count : g.W.MonWorld.fault_count l.world ≡ g.W.MonWorld.fault_count l.fn.world;
      watched : Watched g.since.first (g.W.MonWorld.did g.since.config g.since.start l.world) l.monitor.content None;
      config : l.monitor.config ≡ g.since.config;
    }
