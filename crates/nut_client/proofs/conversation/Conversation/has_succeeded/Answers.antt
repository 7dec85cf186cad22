use Rattle.std.proofs.Common.{Some, ap, inr, refl, sym, ◌∙◌}
use Rattle.nut_proto.specs.Tracking.{tracking_status}
use Rattle.nut_client.specs.Script.{by_status, word}
use Rattle.nut_client.proofs.Parts.{ends_at, fails, turns}
use Rattle.nut_client.proofs.conversation.Conversation.has_succeeded.Goals as goal

pub returns-in_err-words : goal.returns-in_err-words
returns-in_err-words g c = λ pending. ends_at c.from_residual.result c.from_residual.ensures.1 (c.in_err-words.ensures (λ words. by_status pending (tracking_status (word 0 words))))

pub returns-in-Some-Success : goal.returns-in-Some-Success
returns-in-Some-Success g c = λ pending.
    turns (c.in_ok-words.ensures (λ words. by_status pending (tracking_status (word 0 words))))
    (ap (by_status pending) (sym (c.tracking_status.ensures ∙ ap tracking_status c.get.ensures) ∙ c.in-Some-Success.is ∙ ap Some c.in-Some-Success.field-0-is))

pub returns-in-Some-Pending : goal.returns-in-Some-Pending
returns-in-Some-Pending g c = λ pending.
    turns (c.in_ok-words.ensures (λ words. by_status pending (tracking_status (word 0 words))))
    (ap (by_status pending) (sym (c.tracking_status.ensures ∙ ap tracking_status c.get.ensures) ∙ c.in-Some-Pending.is ∙ ap Some c.in-Some-Pending.field-0-is))

pub returns-in-Some-Failed : goal.returns-in-Some-Failed
returns-in-Some-Failed g c = λ pending.
    fails (c.in_ok-words.ensures (λ words. by_status pending (tracking_status (word 0 words))))
    (inr (ap (by_status pending) (sym (c.tracking_status.ensures ∙ ap tracking_status c.get.ensures) ∙ c.in-Some-Failed.is ∙ ap Some c.in-Some-Failed.field-0-is), refl))

pub returns-in-Some-Unknown : goal.returns-in-Some-Unknown
returns-in-Some-Unknown g c = λ pending.
    fails (c.in_ok-words.ensures (λ words. by_status pending (tracking_status (word 0 words))))
    (inr (ap (by_status pending) (sym (c.tracking_status.ensures ∙ ap tracking_status c.get.ensures) ∙ c.in-Some-Unknown.is ∙ ap Some c.in-Some-Unknown.field-0-is), refl))

pub returns : goal.returns
returns g c = λ pending.
    fails (c.in_ok-words.ensures (λ words. by_status pending (tracking_status (word 0 words))))
    (inr (ap (by_status pending) (sym (c.tracking_status.ensures ∙ ap tracking_status c.get.ensures) ∙ c.in-None.is), refl))
