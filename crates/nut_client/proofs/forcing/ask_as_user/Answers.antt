use Rattle.nut_client.proofs.Parts.{all_asked}
use Rattle.nut_client.proofs.forcing.ask_as_user.Goals as goal

pub returns-clause-ends : goal.returns-clause-ends
returns-clause-ends g c = all_asked _ c.ask_in_turn.result _ _ c.new-conversation.ensures c.ask_in_turn.ensures.goes
