use Rattle.nut_client.specs.Script.{on_number}
use Rattle.nut_client.proofs.Parts.{ends_at, gives}
use Rattle.nut_client.proofs.conversation.Conversation.number.Goals as goal

pub returns-in_err-outcome : goal.returns-in_err-outcome
returns-in_err-outcome g c = λ next. ends_at c.from_residual.result c.from_residual.ensures.1 (c.in_err-outcome.ensures.goes (on_number next))

pub returns : goal.returns
returns g c = λ next. gives on_number next c.number_of.result (c.in_ok-outcome.ensures.goes (on_number next)) c.number_of.ensures
