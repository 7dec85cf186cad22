use Rattle.nut_client.specs.Script.{on_done}
use Rattle.nut_client.proofs.Parts.{ends_at, gives}
use Rattle.nut_client.proofs.conversation.Conversation.done.Goals as goal

pub returns-in_err-outcome-clause-goes : goal.returns-in_err-outcome-clause-goes
returns-in_err-outcome-clause-goes g c = λ next. ends_at c.from_residual.result c.from_residual.ensures.1 (c.in_err-outcome.ensures.goes (on_done next))

pub returns-clause-goes : goal.returns-clause-goes
returns-clause-goes g c = λ next. gives (λ k. on_done (k tt)) (λ it. next) c.done_of.result (c.in_ok-outcome.ensures.goes (on_done next)) c.done_of.ensures
