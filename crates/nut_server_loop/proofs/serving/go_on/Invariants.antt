use Rattle.std.proofs.Common.{◌≡◌}
use Rattle.nut_server_loop.specs.Record.{NothingIsWithheld, NobodyLeaves}
use Rattle.nut_server_loop.specs.inside.Going.{Offered}
use Rattle.nut_server_loop.proofs.serving.go_on.Given as goal

abbrev pub ghost-turn : goal.ghost-turn
ghost-turn g a = g.since

abbrev pub ghost-settle_all : goal.ghost-settle_all
ghost-settle_all g a = g.since

abbrev pub invariant-loop : goal.invariant-loop
invariant-loop g l =
    record {
      same_count : g.W.World.fault_count l.world ≡ g.W.World.fault_count l.fn.world;
      offered : Offered g.since.first (g.W.World.log l.world) l.server;
      reached : g.W.World.reached g.since.start l.world;
      withheld : NothingIsWithheld (g.W.World.late l.world) l.server;
      left : NobodyLeaves l.server;
    }
