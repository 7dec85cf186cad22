use Rattle.std.proofs.Common.{◌≡◌, [], length}
use Rattle.nut_server_loop.specs.Record.{waits_of}
use Rattle.nut_server_loop.specs.inside.Going.{Serving, OnlyAt}
use Rattle.nut_server_loop.proofs.settling.flush.Given as goal

abbrev pub ghost-write_once : goal.ghost-write_once
ghost-write_once g a = g.since

abbrev pub invariant-loop : goal.invariant-loop
invariant-loop g l =
    record {
      same_count : g.W.World.fault_count l.world ≡ g.W.World.fault_count l.fn.world;
      served : Serving g.since.first (g.W.World.log l.world) (g.W.World.late l.world) l.server [];
      reached : g.W.World.reached g.since.start l.world;
      only : OnlyAt l.peer (g.W.World.late l.fn.world) (g.W.World.late l.world) l.fn.server l.server;
    }

abbrev pub decreases-loop : goal.decreases-loop
decreases-loop g l = length (waits_of l.peer l.server)
