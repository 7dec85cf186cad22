use Rattle.std.proofs.Common.{◌-◌, Ok}
use Rattle.nut_client.specs.Script.{asks_status, if_pending, waits}
use Rattle.nut_client.specs.declared.deeds.TheConstants.{PAUSES_MAX}
use Rattle.nut_client.specs.inside.Between.{Goes, point}
use Rattle.nut_client.proofs.conversation.Conversation.wait_for.Given as goal

abbrev pub invariant-loop : goal.invariant-loop
invariant-loop g l =
    Goes (waits l.number) (λ (done : Unit {0}). asks_status l.number (if_pending l.number (PAUSES_MAX - l.counter))) (Ok tt)
    (point g.S.Stream.remaining g.S.Stream.taken g.S.Stream.has_ended l.fn.self.unread l.fn.stream) (point g.S.Stream.remaining g.S.Stream.taken g.S.Stream.has_ended l.self.unread l.stream)
