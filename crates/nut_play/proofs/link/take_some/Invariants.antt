use Rattle.std.proofs.Common.{◌≡◌, ◌≤◌, ◌-◌, take}
use Rattle.nut_server_spec.specs.Acceptance.{waiting_of}
use Rattle.nut_server_spec.specs.Event.{Took}
use Rattle.nut_server_spec.specs.machine.Machine.{advance}
use Rattle.nut_fleet.specs.machine.Going.{put_on}
use Rattle.nut_play.proofs.link.take_some.Given as goal

abbrev pub invariant-loop-moved : goal.invariant-loop-moved
invariant-loop-moved l =
    record {
      within : l.moved ≤ l.count;
      server : l.server ≡ advance l.fn.server (Took l.c l.moved);
      pipe : l.pipe.items ≡ put_on l.linked (take l.moved (waiting_of l.c l.fn.server.sessions)) l.fn.pipe.items;
    }

abbrev pub decreases-loop-moved : goal.decreases-loop-moved
decreases-loop-moved l = l.count - l.moved
