use Rattle.std.specs.Prelude.{◌≡◌}
use Rattle.nut_upsmon.specs.inside.Running.{Running}
use Rattle.nut_upsmon.proofs.watching.watch_in_turn.Given as goal

abbrev pub invariant-loop : goal.invariant-loop
invariant-loop g l =
    record {
      running :
          Running g.W.MonWorld.did g.W.GuardedWorld.turns g.W.GuardedWorld.acts g.W.GuardedWorld.upcoming l.fn.world l.world l.beginning.monitor.config;
      same_count : g.W.MonWorld.fault_count l.world ≡ g.W.MonWorld.fault_count l.fn.world;
    }
