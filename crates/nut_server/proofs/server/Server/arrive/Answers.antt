use Rattle.nut_server.specs.Arrival.{event_of}
use Rattle.nut_server.proofs.Arrives.{answer_told, stands_after, refused_is}
use Rattle.nut_server.proofs.server.Server.arrive.Goals as goal

pub returns-clause-answered : goal.returns-clause-answered
returns-clause-answered c = answer_told c.args.self.now (event_of c.args.arrival) c.step-answer.result c.step-answer.ensures.answered

pub returns-clause-stands : goal.returns-clause-stands
returns-clause-stands c = stands_after c.args.self.now c.step-answer.new.self (event_of c.args.arrival) c.step-answer.result c.step-answer.ensures.answered c.step-answer.ensures.content

pub returns-clause-unchanged : goal.returns-clause-unchanged
returns-clause-unchanged c = refused_is c.args.self.now c.step-answer.new.self (event_of c.args.arrival) c.step-answer.result c.step-answer.ensures.answered c.step-answer.ensures.content
