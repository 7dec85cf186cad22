use Rattle.std.proofs.Common.{rules, ◌≡◌, ◌<◌, true, length, sym, ◌∙◌, ap, subst, arith}
use Rattle.nut_server_spec.specs.Acceptance.{session_of, waiting_in, leaves}
use Rattle.nut_server_loop.proofs.Steps.{at_err, stays}
use Rattle.nut_server_loop.proofs.Writes.{closed_left}
use Rattle.nut_server_loop.proofs.Settles.{gone_after_close, only_closed, only_twice}
use Rattle.nut_server_loop.proofs.settling.settle.Goals as goal

pub returns-in_ok-close-clause-goes : goal.returns-in_ok-close-clause-goes
returns-in_ok-close-clause-goes g c =
    record {
      ok = let left : leaves (session_of c.args.c c.flush.new.server.sessions) ≡ true = sym c.leaves.ensures ∙ c.if-leaves.true in
          closed_left g.since.first _ _ _ _ _ _ c.args.c _ c.in_ok-flush.ensures.goes.ok c.in_ok-close.ensures.step.ok c.in_ok-close.ensures.late left c.arrive.ensures.answered c.arrive.ensures.stands;
      err = search rules;
      counted = c.in_ok-close.ensures.step.counted ∙ c.in_ok-flush.ensures.goes.counted;
      reached = g.met.W.World.reached_on _ _ _ c.in_ok-flush.ensures.goes.reached c.in_ok-close.ensures.step.reached;
    }

pub returns-in_ok-close-clause-settled : goal.returns-in_ok-close-clause-settled
returns-in_ok-close-clause-settled g c = λ some.
    let left : leaves (session_of c.args.c c.flush.new.server.sessions) ≡ true = sym c.leaves.ensures ∙ c.if-leaves.true in
    let gone = gone_after_close g.since.first _ _ _ c.args.c _ c.in_ok-flush.ensures.goes.ok.served left c.arrive.ensures.answered c.arrive.ensures.stands in
    let never : 0 < 0 = subst (λ o. 0 < length (waiting_in o)) gone some in
    absurd (omega arith)

pub returns-in_ok-close-clause-left : goal.returns-in_ok-close-clause-left
returns-in_ok-close-clause-left g c =
    let left : leaves (session_of c.args.c c.flush.new.server.sessions) ≡ true = sym c.leaves.ensures ∙ c.if-leaves.true in
    ap leaves (gone_after_close g.since.first _ _ _ c.args.c _ c.in_ok-flush.ensures.goes.ok.served left c.arrive.ensures.answered c.arrive.ensures.stands)

pub returns-in_ok-close-clause-only : goal.returns-in_ok-close-clause-only
returns-in_ok-close-clause-only g c =
    let left : leaves (session_of c.args.c c.flush.new.server.sessions) ≡ true = sym c.leaves.ensures ∙ c.if-leaves.true in
    only_twice _ _ _ _ _ _ _ c.in_ok-flush.ensures.only
    (only_closed _ _ g.since.first _ _ _ c.args.c _ (λ q is. c.in_ok-close.ensures.late q ∙ is) c.in_ok-flush.ensures.goes.ok.served left c.arrive.ensures.answered c.arrive.ensures.stands)

pub returns-in_err-close-clause-goes : goal.returns-in_err-close-clause-goes
returns-in_err-close-clause-goes g c =
    record {
      ok = search rules;
      err = at_err _ g.since.first _ _ _ (stays g.since.first _ _ _ _ c.in_err-close.ensures.step.err c.in_ok-flush.ensures.goes.ok.served);
      counted = search rules;
      reached = g.met.W.World.reached_on _ _ _ c.in_ok-flush.ensures.goes.reached c.in_err-close.ensures.step.reached;
    }
