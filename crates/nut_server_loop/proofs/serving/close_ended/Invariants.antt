use Rattle.std.proofs.Common.{◌≡◌, [], drop}
use Rattle.nut_server_spec.specs.Configuration.{Configuration}
use Rattle.nut_server_spec.specs.Content.{Content}
use Rattle.nut_server_loop.specs.Served.{to_close}
use Rattle.nut_server_loop.specs.inside.Going.{Serving}
use Rattle.nut_server_loop.proofs.serving.close_ended.Given as goal

abbrev pub invariant-loop-u : goal.invariant-loop-u
invariant-loop-u g l =
    record {
      same_count : g.W.World.fault_count l.world ≡ g.W.World.fault_count l.fn.world;
      served : (first : Configuration) (s : Content) → Serving first (g.W.World.log l.fn.world) (g.W.World.late l.fn.world) s (to_close l.fn.ended.drivers.items l.fn.ended.connections.items)
          → Serving first (g.W.World.log l.world) (g.W.World.late l.world) s (to_close (drop l.u-index l.u-items) l.fn.ended.connections.items);
      reached : g.W.World.reached l.fn.world l.world;
    }

abbrev pub invariant-loop-c : goal.invariant-loop-c
invariant-loop-c g l =
    record {
      same_count : g.W.World.fault_count l.world ≡ g.W.World.fault_count l.fn.world;
      served : (first : Configuration) (s : Content) → Serving first (g.W.World.log l.fn.world) (g.W.World.late l.fn.world) s (to_close l.fn.ended.drivers.items l.fn.ended.connections.items)
          → Serving first (g.W.World.log l.world) (g.W.World.late l.world) s (to_close [] (drop l.c-index l.c-items));
      reached : g.W.World.reached l.fn.world l.world;
    }
