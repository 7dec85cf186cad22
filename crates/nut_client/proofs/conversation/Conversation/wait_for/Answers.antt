use Rattle.std.proofs.Common.{◌≡◌, ◌-◌, ◌+◌, ◌∷◌, [], arith, ap, codes, if◌then◌else◌, inr, refl, suc, ◌∙◌}
use Rattle.nut_client.specs.Script.{Prints, if_pending, line}
use Rattle.nut_client.specs.declared.deeds.TheConstants.{PAUSES_MAX}
use Rattle.nut_client.proofs.Parts.{ends_at, fails, follows, pauses, stays, turns}
use Rattle.nut_client.proofs.conversation.Conversation.wait_for.Goals as goal

pub loop-init : goal.loop-init
loop-init g c = stays refl

pub returns-in_err-has_succeeded : goal.returns-in_err-has_succeeded
returns-in_err-has_succeeded g c =
    ends_at c.from_residual.result c.from_residual.ensures.1 (follows c.loop.invariant (c.in_err-has_succeeded.ensures (if_pending c.args.number (PAUSES_MAX - c.loop.counter))))

pub returns-then-branch : goal.returns-then-branch
returns-then-branch g c =
    let pending = if_pending c.args.number (PAUSES_MAX - c.loop.counter) in
    turns (follows c.loop.invariant (c.in_ok-has_succeeded.ensures pending)) (ap (λ b. if b then Prints (line (codes "SUCCESS" ∷ [])) else pending) c.if-branch.true)

pub loop-preserved : goal.loop-preserved
loop-preserved g c =
    let pending = if_pending c.args.number (PAUSES_MAX - c.loop.counter) in
    let more : PAUSES_MAX - c.loop.counter ≡ suc (PAUSES_MAX - (c.loop.counter + 1)) = omega (arith, c.loop-test.true) in
    pauses (follows c.loop.invariant (c.in_ok-has_succeeded.ensures pending))
    (ap (λ b. if b then Prints (line (codes "SUCCESS" ∷ [])) else pending) c.if-branch.false ∙ ap (if_pending c.args.number) more) refl

pub returns-in_err-has_succeeded-2 : goal.returns-in_err-has_succeeded-2
returns-in_err-has_succeeded-2 g c =
    ends_at c.from_residual-in_err-has_succeeded-2.result c.from_residual-in_err-has_succeeded-2.ensures.1
    (follows c.loop.invariant (c.in_err-has_succeeded-2.ensures (if_pending c.args.number (PAUSES_MAX - c.loop.counter))))

pub returns-then-branch-2 : goal.returns-then-branch-2
returns-then-branch-2 g c =
    let pending = if_pending c.args.number (PAUSES_MAX - c.loop.counter) in
    turns (follows c.loop.invariant (c.in_ok-has_succeeded-2.ensures pending)) (ap (λ b. if b then Prints (line (codes "SUCCESS" ∷ [])) else pending) c.if-branch-2.true)

pub returns-else-branch-2 : goal.returns-else-branch-2
returns-else-branch-2 g c =
    let pending = if_pending c.args.number (PAUSES_MAX - c.loop.counter) in
    let none : PAUSES_MAX - c.loop.counter ≡ 0 = omega (arith, c.loop-test.false) in
    fails (follows c.loop.invariant (c.in_ok-has_succeeded-2.ensures pending))
    (inr (ap (λ b. if b then Prints (line (codes "SUCCESS" ∷ [])) else pending) c.if-branch-2.false ∙ ap (if_pending c.args.number) none, refl))
