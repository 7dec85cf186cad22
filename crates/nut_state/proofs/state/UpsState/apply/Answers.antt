-- A plain SETINFO does what it asks for, and a plain PONG asks for nothing; any other line takes the other way.
use Rattle.std.proofs.Common.{◌∷◌, sym, subst, ◌∙◌}
use Rattle.std.proofs.lemmas.Result.{on_ok_weaker}
use Rattle.nut_state.specs.Change.{pong, set_info}
use Rattle.nut_state.specs.laws.Holds.{Holds}
use Rattle.nut_state.specs.Step.{accepts, after}
use Rattle.nut_state.proofs.HistoryLemmas.{applied_change, applied_holds}
use Rattle.nut_state.proofs.state.UpsState.apply.Goals as goal

pub returns-in-Some-clause-looks_back : goal.returns-in-Some-clause-looks_back
returns-in-Some-clause-looks_back c lines h =
    let does = applied_change c.args.self.now c.args.line.now (set_info c.in-Some.name.now c.in-Some.value.now) c.in-Some.ensures in
    subst (λ u. Holds u (c.args.line.now ∷ lines)) (sym (c.in_ok-set_info.ensures.ok ∙ does)) (applied_holds c.args.self.now c.args.line.now lines h)

pub returns-then-is_plain_pong-clause-table : goal.returns-then-is_plain_pong-clause-table
unfolding after accepts
returns-then-is_plain_pong-clause-table c =
    applied_change c.args.self.now c.args.line.now pong (c.is_plain_pong.ensures c.if-is_plain_pong.true)

pub returns-then-is_plain_pong-clause-looks_back : goal.returns-then-is_plain_pong-clause-looks_back
unfolding after accepts
returns-then-is_plain_pong-clause-looks_back c lines h =
    let does = applied_change c.args.self.now c.args.line.now pong (c.is_plain_pong.ensures c.if-is_plain_pong.true) in
    subst (λ u. Holds u (c.args.line.now ∷ lines)) (sym does) (applied_holds c.args.self.now c.args.line.now lines h)

pub returns-clause-looks_back : goal.returns-clause-looks_back
returns-clause-looks_back c lines h =
    on_ok_weaker c.apply_any.result
    (λ e. subst (λ u. Holds u (c.args.line.now ∷ lines)) (sym e) (applied_holds c.args.self.now c.args.line.now lines h)) c.apply_any.ensures.table
