use Rattle.std.proofs.Common.{◌≡◌, ◌<◌, ◌-◌, ◌^◌, ℕ, [], false}
use Rattle.nut_server_loop.specs.Record.{IsSettled, NobodyLeaves, leaves_at}
use Rattle.nut_server_loop.specs.inside.Going.{Serving}
use Rattle.nut_server_loop.specs.declared.types.Peer.TheVariants.{Connection, Driver}
use Rattle.nut_server_loop.proofs.settling.settle_all.Given as goal

abbrev pub ghost-settle : goal.ghost-settle
ghost-settle g a = g.since

abbrev pub ghost-flush : goal.ghost-flush
ghost-flush g a = g.since

abbrev pub invariant-loop-c : goal.invariant-loop-c
invariant-loop-c g l =
    record {
      same_count : g.W.World.fault_count l.world ≡ g.W.World.fault_count l.fn.world;
      served : Serving g.since.first (g.W.World.log l.world) (g.W.World.late l.world) l.server [];
      reached : g.W.World.reached g.since.start l.world;
      settled : (d : ℕ) → d < l.«from» → IsSettled (g.W.World.late l.world) l.server (Connection d);
      left : (d : ℕ) → d < l.«from» → leaves_at (Connection d) l.server ≡ false;
    }

abbrev pub decreases-loop-c : goal.decreases-loop-c
decreases-loop-c g l = 2 ^ 64 - l.«from»

abbrev pub invariant-loop-u : goal.invariant-loop-u
invariant-loop-u g l =
    record {
      same_count : g.W.World.fault_count l.world ≡ g.W.World.fault_count l.fn.world;
      served : Serving g.since.first (g.W.World.log l.world) (g.W.World.late l.world) l.server [];
      reached : g.W.World.reached g.since.start l.world;
      settled : (d : ℕ) → IsSettled (g.W.World.late l.world) l.server (Connection d);
      left : NobodyLeaves l.server;
      requests : (u : ℕ) → u < l.«from» → IsSettled (g.W.World.late l.world) l.server (Driver u);
    }

abbrev pub decreases-loop-u : goal.decreases-loop-u
decreases-loop-u g l = 2 ^ 64 - l.«from»
