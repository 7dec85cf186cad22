use Rattle.nut_client.specs.Script.{script}
use Rattle.nut_client.proofs.Parts.{all_done}
use Rattle.nut_client.proofs.engine.ask_server.Goals as goal

pub returns-clause-ends : goal.returns-clause-ends
returns-clause-ends g c = all_done (script c.args.ups c.args.wanted) c.answer.result _ _ c.new-conversation.ensures c.answer.ensures

pub returns-clause-lost : goal.returns-clause-lost
returns-clause-lost g c = c.answer.ensures.lost
