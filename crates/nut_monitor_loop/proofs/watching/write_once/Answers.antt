use Rattle.std.proofs.Common.{rules, ◌∙◌, ap}
use Rattle.nut_monitor.specs.Monitors.{MonitorValue}
use Rattle.nut_monitor_loop.proofs.Steps.{at_err, follows, stays}
use Rattle.nut_monitor_loop.proofs.Arrivals.{closed}
use Rattle.nut_monitor_loop.proofs.Writes.{write_took, write_late, write_broke}
use Rattle.nut_monitor_loop.proofs.Settles.{waits_less, only_took}
use Rattle.nut_monitor_loop.proofs.watching.write_once.Goals as goal

pub returns-in-Took-clause-goes : goal.returns-in-Took-clause-goes
returns-in-Took-clause-goes g c =
    record {
      ok = write_took g.since.first _ _ _ _ c.args.i c.waiting.result.now _ c.in-Took.n _ c.requires.1.0.watched c.requires.1.1.1 c.in-Took.is
          (follows g.W.MonWorld.did g.met.W.MonWorld.did_on g.since _ _ _ _ c.requires.1.0.config c.in_ok-n.ensures.ok) c.in_ok-n.ensures.within c.waiting.ensures.value c.step.ensures.answered
          (ap (λ (m : MonitorValue). m.content) c.step.ensures.content);
      err = search rules;
      counted = search rules;
      config = search rules;
    }

pub returns-in-Took-clause-less : goal.returns-in-Took-clause-less
returns-in-Took-clause-less g c =
    waits_less g.since.first _ _ _ c.args.i c.waiting.result.now _ c.in-Took.n _ c.requires.1.0.watched c.in-Took.is c.in_ok-n.ensures.within c.waiting.ensures.value c.step.ensures.answered
    (ap (λ (m : MonitorValue). m.content) c.step.ensures.content)

pub returns-in-Took-clause-only : goal.returns-in-Took-clause-only
returns-in-Took-clause-only g c =
    only_took g.since.first _ _ _ c.args.i c.waiting.result.now _ c.in-Took.n _ c.requires.1.0.watched c.in-Took.is c.in_ok-n.ensures.within c.waiting.ensures.value c.step.ensures.answered
    (ap (λ (m : MonitorValue). m.content) c.step.ensures.content)

pub returns-in-Later-clause-goes : goal.returns-in-Later-clause-goes
returns-in-Later-clause-goes g c =
    record {
      ok = write_late g.since.first _ _ _ c.args.i c.waiting.result.now _ c.requires.1.0.watched c.in-Later.is
          (follows g.W.MonWorld.did g.met.W.MonWorld.did_on g.since _ _ _ _ c.requires.1.0.config c.in_ok-n.ensures.ok);
      err = search rules;
      counted = search rules;
      config = search rules;
    }

pub returns-in_ok-close-in-Failed-clause-goes : goal.returns-in_ok-close-in-Failed-clause-goes
returns-in_ok-close-in-Failed-clause-goes g c =
    record {
      ok = closed g.since.first _ _ _ c.args.i
          (write_broke g.since.first _ _ _ _ c.args.i c.waiting.result.now _ _ c.requires.1.0.watched c.requires.1.1.1 c.in-Failed.is
          (follows g.W.MonWorld.did g.met.W.MonWorld.did_on g.since _ _ _ _ c.requires.1.0.config c.in_ok-n.ensures.ok) c.requires.1.1.0 c.step-in-Failed.ensures.answered
          (ap (λ (m : MonitorValue). m.content) c.step-in-Failed.ensures.content))
          (follows g.W.MonWorld.did g.met.W.MonWorld.did_on g.since _ _ _ _ (ap (λ (m : MonitorValue). m.config) c.step-in-Failed.ensures.content ∙ c.requires.1.0.config) c.in_ok-close-in-Failed.ensures.ok);
      err = search rules;
      counted = search rules;
      config = search rules;
    }

pub returns-in_err-close-in-Failed-clause-goes : goal.returns-in_err-close-in-Failed-clause-goes
returns-in_err-close-in-Failed-clause-goes g c =
    record {
      ok = search rules;
      err = at_err _ g.since.first _ _ _
          (stays g.since.first _ _ _ _ (follows g.W.MonWorld.did g.met.W.MonWorld.did_on g.since _ _ _ _ (ap (λ (m : MonitorValue). m.config) c.step-in-Failed.ensures.content ∙ c.requires.1.0.config) c.in_err-close-in-Failed.ensures.err)
          (write_broke g.since.first _ _ _ _ c.args.i c.waiting.result.now _ _ c.requires.1.0.watched c.requires.1.1.1 c.in-Failed.is
          (follows g.W.MonWorld.did g.met.W.MonWorld.did_on g.since _ _ _ _ c.requires.1.0.config c.in_ok-n.ensures.ok) c.requires.1.1.0 c.step-in-Failed.ensures.answered
          (ap (λ (m : MonitorValue). m.content) c.step-in-Failed.ensures.content)));
      counted = search rules;
      config = search rules;
    }

pub returns-in_err-n-clause-goes : goal.returns-in_err-n-clause-goes
returns-in_err-n-clause-goes g c =
    record {
      ok = search rules;
      err = at_err _ g.since.first _ _ _
          (stays g.since.first _ _ _ _ (follows g.W.MonWorld.did g.met.W.MonWorld.did_on g.since _ _ _ _ c.requires.1.0.config c.in_err-n.ensures.err) c.requires.1.0.watched);
      counted = search rules;
      config = search rules;
    }
