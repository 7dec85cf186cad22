use Rattle.std.proofs.Common.{◌≤◌, length, ap, ◌∙◌, arith, refl, le-ltb}
use Rattle.nut_monitor_spec.specs.machine.Machine.{settled}
use Rattle.nut_monitor.proofs.state.State.moment.Goals as goal

pub returns : goal.returns
returns c =
    let free : length c.args.self.now.notices ≤ 0 = grind (arith, c.is_empty.ensures, c.if-not-is_empty.false) in
    record {
      step = record {
        answered = (rw (le-ltb 0 (length c.args.self.now.notices) free) refl, tt);
        content = c.settle.ensures.content ∙ ap settled c.tick.ensures.content;
        orderly = c.settle.ensures.orderly;
      };
    }
