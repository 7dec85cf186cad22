use Rattle.std.proofs.Common.{ap}
use Rattle.nut_monitor.specs.Events.{event_of}
use Rattle.nut_monitor.proofs.Arrives.{stands_after}
use Rattle.nut_monitor.proofs.monitor.Monitor.arrive.Goals as goal

pub returns-clause-stands : goal.returns-clause-stands
returns-clause-stands c =
    stands_after c.args.self.now.content c.step-answer.new.self.content (event_of c.args.event) c.step-answer.result c.step-answer.ensures.answered (ap (λ m. m.content) c.step-answer.ensures.content)
