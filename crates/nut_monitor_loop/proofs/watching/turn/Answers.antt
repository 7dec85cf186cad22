use Rattle.std.proofs.Common.{rules, ap}
use Rattle.nut_monitor_loop.specs.Record.{event_given}
use Rattle.nut_monitor_loop.proofs.Steps.{at_err, follows, leads, stays}
use Rattle.nut_monitor_loop.proofs.watching.turn.Goals as goal

pub returns-in_err-next-clause-goes : goal.returns-in_err-next-clause-goes
returns-in_err-next-clause-goes g c =
    record {
      ok = search rules;
      err = at_err _ g.since.first _ _ _
          (stays g.since.first _ _ _ _ (follows g.W.MonWorld.did g.met.W.MonWorld.did_on g.since _ _ _ _ c.requires.1.0.config c.in_err-next.ensures.err) c.requires.1.0.watched);
      counted = search rules;
      config = search rules;
    }

pub returns-in-End-clause-goes : goal.returns-in-End-clause-goes
returns-in-End-clause-goes g c =
    record {
      ok = stays g.since.first _ _ _ _
          (λ entries did. (leads g.W.MonWorld.did g.W.MonWorld.awaits g.met.W.MonWorld.did_on g.met.W.MonWorld.awaits_on g.since _ _ _ _ _
          c.requires.1.0.config c.in_ok-next.ensures.ok entries did).1 (ap (λ n. event_given n c.next.new.piece.items) c.in-End.is))
          c.requires.1.0.watched;
      err = search rules;
      counted = search rules;
      config = search rules;
    }

pub hand_on-requires : goal.hand_on-requires
hand_on-requires g c κs within = (
  search rules,
  (
    search rules,
    (
      search rules,
      (
        stays g.since.first _ _ _ _
            (leads g.W.MonWorld.did g.W.MonWorld.awaits g.met.W.MonWorld.did_on g.met.W.MonWorld.awaits_on g.since _ _ _ _ _ c.requires.1.0.config c.in_ok-next.ensures.ok)
            c.requires.1.0.watched,
        search rules,
      ),
    ),
  ),
)
