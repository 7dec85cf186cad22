use Rattle.std.proofs.Common.{rules, ◌≤◌, length}
use Rattle.nut_monitor_loop.proofs.Settles.{all_settled, settled_to}
use Rattle.nut_monitor_loop.proofs.watching.settle_links.Goals as goal

pub loop-i-preserved : goal.loop-i-preserved
loop-i-preserved g c =
    record {
      same_count = search rules;
      watched = search rules;
      as_many = search rules;
      settled = settled_to (g.W.MonWorld.late c.loop-i.world) (g.W.MonWorld.late c.flush.new.world) c.loop-i.monitor.content
          c.flush.new.monitor.content c.loop-i.i (search rules) (search rules) (search rules) c.loop-i.invariant.settled;
      quiet = search rules;
      config = search rules;
    }

pub returns-clause-withheld : goal.returns-clause-withheld
returns-clause-withheld g c is =
    let past : length c.loop-i.monitor.content.watches ≤ c.loop-i.i = search rules in
    all_settled (g.W.MonWorld.late c.loop-i.world) c.loop-i.monitor.content.watches c.loop-i.i past c.loop-i.invariant.settled
