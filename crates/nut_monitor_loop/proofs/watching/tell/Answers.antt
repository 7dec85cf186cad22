use Rattle.std.proofs.Common.{rules, ap}
use Rattle.nut_monitor.specs.Monitors.{MonitorValue}
use Rattle.nut_monitor_loop.proofs.Steps.{at_err, follows, stays}
use Rattle.nut_monitor_loop.proofs.Writes.{told_one}
use Rattle.nut_monitor_loop.proofs.watching.tell.Goals as goal

pub returns-clause-goes : goal.returns-clause-goes
returns-clause-goes g c =
    record {
      ok = told_one g.since.first _ _ _ _ c.args.notice c.requires.1.0.watched
          (follows g.W.MonWorld.did g.met.W.MonWorld.did_on g.since _ _ _ _ c.requires.1.0.config c.in_ok-notice.ensures.ok) c.requires.1.1
          (ap (λ (m : MonitorValue). m.content) c.take_notice.ensures.left);
      err = search rules;
      counted = search rules;
      config = search rules;
    }

pub returns-in_err-notice-clause-goes : goal.returns-in_err-notice-clause-goes
returns-in_err-notice-clause-goes g c =
    record {
      ok = search rules;
      err = at_err _ g.since.first _ _ _
          (stays g.since.first _ _ _ _ (follows g.W.MonWorld.did g.met.W.MonWorld.did_on g.since _ _ _ _ c.requires.1.0.config c.in_err-notice.ensures.err) c.requires.1.0.watched);
      counted = search rules;
      config = search rules;
    }
