use Rattle.std.proofs.Common.{◌+◌, refl, sym, ap, subst, ◌∙◌, arith}
use Rattle.nut_server_spec.specs.Content.{Content}
use Rattle.nut_server_spec.specs.machine.Machine.{with_sessions, without}
use Rattle.nut_server.specs.contracts.server.Parts.{the_view}
use Rattle.nut_server.specs.inside.Place.{Stands}
use Rattle.nut_server.proofs.Arrives.{orderly_without}
use Rattle.nut_server.proofs.FirstLines.{IsAhead, few_feeds, goes_ahead, left_shorter, stands_on, stopped_ahead}
use Rattle.nut_server.proofs.Heard.{standing}
use Rattle.nut_server.proofs.server.Parts.hear.Goals as goal

-- ---- memory ran out at the first line of what is left

pub invariant_of-self : goal.invariant_of-self
invariant_of-self c = orderly_without c.args.c c.self.inside c.remove.new.self c.remove.ensures c.self.invariant

pub returns-in_default-clause-lost : goal.returns-in_default-clause-lost
returns-in_default-clause-lost c =
    let at = c.loop-left.invariant in
    let it = standing c.args.c c.loop-left.self.sessions c.args.at at.stands in
    let missed = rw c.in_default.is at (c.hear_first.ensures.ok c.args.c it.0 at.stands it.2) in
    ap (λ sessions. with_sessions sessions (the_view c.self.inside)) c.remove.ensures
    ∙ ap (λ (x : Content). with_sessions (without c.args.c x.sessions) x) c.self.view_is
    ∙ (stopped_ahead c.args.c c.args.piece.now c.loop-left.left.now c.loop-left.done c.args.self.now c.loop-left.self c.hear_first.new.self it.0 it.1 missed at.ahead).0

pub returns-in_default-clause-few : goal.returns-in_default-clause-few
returns-in_default-clause-few c =
    let at = c.loop-left.invariant in
    let it = standing c.args.c c.loop-left.self.sessions c.args.at at.stands in
    let missed = rw c.in_default.is at (c.hear_first.ensures.ok c.args.c it.0 at.stands it.2) in
    (stopped_ahead c.args.c c.args.piece.now c.loop-left.left.now c.loop-left.done c.args.self.now c.loop-left.self c.hear_first.new.self it.0 it.1 missed at.ahead).1

pub returns-in_default-clause-memory : goal.returns-in_default-clause-memory
returns-in_default-clause-memory c =
    let at = c.loop-left.invariant in
    let it = standing c.args.c c.loop-left.self.sessions c.args.at at.stands in
    let missed = rw c.in_default.is at (c.hear_first.ensures.ok c.args.c it.0 at.stands it.2) in
    (stopped_ahead c.args.c c.args.piece.now c.loop-left.left.now c.loop-left.done c.args.self.now c.loop-left.self c.hear_first.new.self it.0 it.1 missed at.ahead).2

-- ---- the rest goes to the cutter, and nothing has changed

pub hear_lines-requires : goal.hear_lines-requires
hear_lines-requires c =
    let at = c.loop-left.invariant in
    let it = standing c.args.c c.loop-left.self.sessions c.args.at at.stands in
    let same = rw c.in_default-heard.is at (rw c.in-Ok.is at (c.hear_first.ensures.ok c.args.c it.0 at.stands it.2)) in
    subst (λ (s : Content). Stands c.args.c s.sessions c.args.at) (sym same) at.stands

pub overflow_add-result : goal.overflow_add-result
overflow_add-result c = omega (arith, c.in-Err.ensures.few, c.loop-left.invariant.ahead.feeds, few_feeds c.args.piece.now)

pub returns-in-Ok-hear_lines-clause-ok : goal.returns-in-Ok-hear_lines-clause-ok
returns-in-Ok-hear_lines-clause-ok c =
    let at = c.loop-left.invariant in
    let it = standing c.args.c c.loop-left.self.sessions c.args.at at.stands in
    let same = rw c.in_default-heard.is at (rw c.in-Ok.is at (c.hear_first.ensures.ok c.args.c it.0 at.stands it.2)) in
    let ahead = subst (λ (s : Content). IsAhead c.args.c c.args.piece.now c.loop-left.left.now c.loop-left.done c.args.self.now s) (sym same) at.ahead in
    c.in-Ok-hear_lines.ensures.ok ∙ ahead.heard

pub returns-in-Err-clause-lost : goal.returns-in-Err-clause-lost
returns-in-Err-clause-lost c =
    let at = c.loop-left.invariant in
    let it = standing c.args.c c.loop-left.self.sessions c.args.at at.stands in
    let same = rw c.in_default-heard.is at (rw c.in-Ok.is at (c.hear_first.ensures.ok c.args.c it.0 at.stands it.2)) in
    let ahead = subst (λ (s : Content). IsAhead c.args.c c.args.piece.now c.loop-left.left.now c.loop-left.done c.args.self.now s) (sym same) at.ahead in
    c.in-Err.ensures.lost ∙ ahead.lost c.in-Err.more (c.loop-left.done + c.in-Err.more) refl

pub returns-in-Err-clause-memory : goal.returns-in-Err-clause-memory
returns-in-Err-clause-memory c =
    let at = c.loop-left.invariant in
    let it = standing c.args.c c.loop-left.self.sessions c.args.at at.stands in
    let same = rw c.in_default-heard.is at (rw c.in-Ok.is at (c.hear_first.ensures.ok c.args.c it.0 at.stands it.2)) in
    let ahead = subst (λ (s : Content). IsAhead c.args.c c.args.piece.now c.loop-left.left.now c.loop-left.done c.args.self.now s) (sym same) at.ahead in
    ahead.memory c.in-Err.more (c.loop-left.done + c.in-Err.more) refl c.in-Err.ensures.memory

-- ---- the first line of what is left was heard

pub overflow_add-done : goal.overflow_add-done
overflow_add-done c =
    let at = c.loop-left.invariant in
    let it = standing c.args.c c.loop-left.self.sessions c.args.at at.stands in
    let heard = rw c.in-Some.is at (rw c.in-Ok.is at (c.hear_first.ensures.ok c.args.c it.0 at.stands it.2)) in
    let ahead = goes_ahead c.args.c c.args.piece.now c.loop-left.left.now c.in-Some.after.now c.loop-left.done c.args.self.now c.loop-left.self c.hear_first.new.self it.0 it.1 heard at.ahead in
    omega (arith, ahead.feeds, few_feeds c.args.piece.now)

pub loop-left-smaller : goal.loop-left-smaller
loop-left-smaller c =
    let at = c.loop-left.invariant in
    let it = standing c.args.c c.loop-left.self.sessions c.args.at at.stands in
    let heard = rw c.in-Some.is at (rw c.in-Ok.is at (c.hear_first.ensures.ok c.args.c it.0 at.stands it.2)) in
    left_shorter c.args.c it.0 c.loop-left.left.now c.in-Some.after.now c.loop-left.self c.hear_first.new.self heard

pub loop-left-preserved : goal.loop-left-preserved
loop-left-preserved c =
    let at = c.loop-left.invariant in
    let it = standing c.args.c c.loop-left.self.sessions c.args.at at.stands in
    let heard = rw c.in-Some.is at (rw c.in-Ok.is at (c.hear_first.ensures.ok c.args.c it.0 at.stands it.2)) in
    record {
      ahead = goes_ahead c.args.c c.args.piece.now c.loop-left.left.now c.in-Some.after.now c.loop-left.done c.args.self.now c.loop-left.self c.hear_first.new.self it.0 it.1 heard at.ahead;
      stands = stands_on c.args.c it.0 c.loop-left.left.now c.in-Some.after.now c.loop-left.self c.hear_first.new.self c.args.at heard at.stands;
    }
