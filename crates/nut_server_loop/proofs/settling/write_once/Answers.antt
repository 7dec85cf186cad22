use Rattle.std.proofs.Common.{rules, [], sym, subst, ◌∙◌, arith}
use Rattle.nut_server_loop.proofs.Steps.{Answered, Leads, at_err, stays}
use Rattle.nut_server_loop.proofs.Peers.{stays_late}
use Rattle.nut_server_loop.proofs.Writes.{write_took, write_late, write_broke, closed_ended}
use Rattle.nut_server_loop.proofs.Settles.{front_some, none_shown, waits_less, only_none, only_took, none_waits, only_broke}
use Rattle.nut_server_loop.proofs.settling.write_once.Goals as goal

pub returns-then-is_empty-clause-settled : goal.returns-then-is_empty-clause-settled
returns-then-is_empty-clause-settled g c = λ same some.
    let none = none_shown c.waiting-waiting.result.now _ c.waiting-waiting.ensures (sym c.is_empty.ensures ∙ c.if-is_empty.true) in
    absurd (omega (arith, some, none))

pub returns-then-is_empty-clause-only : goal.returns-then-is_empty-clause-only
returns-then-is_empty-clause-only g c = only_none _ _ _ _ (λ q is. is)

pub returns-in-Took-clause-goes : goal.returns-in-Took-clause-goes
returns-in-Took-clause-goes g c =
    record {
      ok = write_took g.since.first _ _ _ _ _ _ c.args.peer c.waiting-waiting.result.now _ c.in-Took.n _ c.requires.1.served c.in-Took.is c.in_ok-n.ensures.step.ok c.in_ok-n.ensures.late c.in_ok-n.ensures.within c.waiting-waiting.ensures
          (subst (λ e. Answered c.args.server.now e c.arrive.result) c.took.ensures c.arrive.ensures.answered)
          (subst (λ e. Leads c.args.server.now e c.arrive.result c.arrive.new.self) c.took.ensures c.arrive.ensures.stands);
      err = search rules;
      counted = c.in_ok-n.ensures.step.counted;
      reached = g.met.W.World.reached_on _ _ _ c.requires.1.reached c.in_ok-n.ensures.step.reached;
    }

pub returns-in-Took-clause-less : goal.returns-in-Took-clause-less
returns-in-Took-clause-less g c = λ same.
    waits_less g.since.first _ _ _ c.args.peer c.waiting-waiting.result.now _ c.in-Took.n _ c.requires.1.served.served c.in-Took.is c.in_ok-n.ensures.within c.waiting-waiting.ensures
    (subst (λ e. Answered c.args.server.now e c.arrive.result) c.took.ensures c.arrive.ensures.answered)
    (subst (λ e. Leads c.args.server.now e c.arrive.result c.arrive.new.self) c.took.ensures c.arrive.ensures.stands)

pub returns-in-Took-clause-only : goal.returns-in-Took-clause-only
returns-in-Took-clause-only g c =
    only_took _ _ g.since.first _ _ _ c.args.peer c.waiting-waiting.result.now _ c.in-Took.n _ (stays_late _ _ _ _ c.in_ok-n.ensures.late)
    c.requires.1.served.served c.in-Took.is c.in_ok-n.ensures.within c.waiting-waiting.ensures
    (subst (λ e. Answered c.args.server.now e c.arrive.result) c.took.ensures c.arrive.ensures.answered)
    (subst (λ e. Leads c.args.server.now e c.arrive.result c.arrive.new.self) c.took.ensures c.arrive.ensures.stands)

pub returns-in-Later-clause-goes : goal.returns-in-Later-clause-goes
returns-in-Later-clause-goes g c =
    record {
      ok = write_late g.since.first _ _ _ _ _ c.args.peer c.waiting-waiting.result.now _ c.requires.1.served c.in-Later.is c.in_ok-n.ensures.step.ok c.in_ok-n.ensures.late;
      err = search rules;
      counted = c.in_ok-n.ensures.step.counted;
      reached = g.met.W.World.reached_on _ _ _ c.requires.1.reached c.in_ok-n.ensures.step.reached;
    }

pub returns-in_ok-close-in-Failed-clause-goes : goal.returns-in_ok-close-in-Failed-clause-goes
returns-in_ok-close-in-Failed-clause-goes g c =
    record {
      ok = closed_ended g.since.first _ _ _ _ _ c.args.peer []
          (write_broke g.since.first _ _ _ _ _ _ c.args.peer c.waiting-waiting.result.now _ _ c.requires.1.served c.in-Failed.is c.in_ok-n.ensures.step.ok c.in_ok-n.ensures.late
          (front_some c.waiting-waiting.result.now _ c.waiting-waiting.ensures (sym c.is_empty.ensures ∙ c.if-is_empty.false))
          (subst (λ e. Answered c.args.server.now e c.arrive-in-Failed.result) c.failed.ensures c.arrive-in-Failed.ensures.answered)
          (subst (λ e. Leads c.args.server.now e c.arrive-in-Failed.result c.arrive-in-Failed.new.self) c.failed.ensures c.arrive-in-Failed.ensures.stands))
          c.in_ok-close-in-Failed.ensures.step.ok c.in_ok-close-in-Failed.ensures.late;
      err = search rules;
      counted = c.in_ok-close-in-Failed.ensures.step.counted ∙ c.in_ok-n.ensures.step.counted;
      reached = g.met.W.World.reached_on _ _ _ c.requires.1.reached (g.met.W.World.reached_on _ _ _ c.in_ok-n.ensures.step.reached c.in_ok-close-in-Failed.ensures.step.reached);
    }

pub returns-in_ok-close-in-Failed-clause-settled : goal.returns-in_ok-close-in-Failed-clause-settled
returns-in_ok-close-in-Failed-clause-settled g c = λ same some.
    let none = none_waits g.since.first _ _ _ c.args.peer _ c.requires.1.served.served
    (front_some c.waiting-waiting.result.now _ c.waiting-waiting.ensures (sym c.is_empty.ensures ∙ c.if-is_empty.false))
    (subst (λ e. Answered c.args.server.now e c.arrive-in-Failed.result) c.failed.ensures c.arrive-in-Failed.ensures.answered)
    (subst (λ e. Leads c.args.server.now e c.arrive-in-Failed.result c.arrive-in-Failed.new.self) c.failed.ensures c.arrive-in-Failed.ensures.stands)
    in
    absurd (omega (arith, some, none))

pub returns-in_ok-close-in-Failed-clause-only : goal.returns-in_ok-close-in-Failed-clause-only
returns-in_ok-close-in-Failed-clause-only g c =
    only_broke _ _ g.since.first _ _ _ c.args.peer _ (λ q is. c.in_ok-close-in-Failed.ensures.late q ∙ stays_late c.in_ok-n.field-0 c.args.peer (g.W.World.late c.args.world.now) (g.W.World.late c.write.new.world) c.in_ok-n.ensures.late q is) c.requires.1.served.served
    (front_some c.waiting-waiting.result.now _ c.waiting-waiting.ensures (sym c.is_empty.ensures ∙ c.if-is_empty.false))
    (subst (λ e. Answered c.args.server.now e c.arrive-in-Failed.result) c.failed.ensures c.arrive-in-Failed.ensures.answered)
    (subst (λ e. Leads c.args.server.now e c.arrive-in-Failed.result c.arrive-in-Failed.new.self) c.failed.ensures c.arrive-in-Failed.ensures.stands)

pub returns-in_err-close-in-Failed-clause-goes : goal.returns-in_err-close-in-Failed-clause-goes
returns-in_err-close-in-Failed-clause-goes g c =
    record {
      ok = search rules;
      err = at_err _ g.since.first _ _ _
          (stays g.since.first _ _ _ _ c.in_err-close-in-Failed.ensures.step.err
          (write_broke g.since.first _ _ _ _ _ _ c.args.peer c.waiting-waiting.result.now _ _ c.requires.1.served c.in-Failed.is c.in_ok-n.ensures.step.ok c.in_ok-n.ensures.late
          (front_some c.waiting-waiting.result.now _ c.waiting-waiting.ensures (sym c.is_empty.ensures ∙ c.if-is_empty.false))
          (subst (λ e. Answered c.args.server.now e c.arrive-in-Failed.result) c.failed.ensures c.arrive-in-Failed.ensures.answered)
          (subst (λ e. Leads c.args.server.now e c.arrive-in-Failed.result c.arrive-in-Failed.new.self) c.failed.ensures c.arrive-in-Failed.ensures.stands)).served);
      counted = search rules;
      reached = g.met.W.World.reached_on _ _ _ c.requires.1.reached (g.met.W.World.reached_on _ _ _ c.in_ok-n.ensures.step.reached c.in_err-close-in-Failed.ensures.step.reached);
    }
