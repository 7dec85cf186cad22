use Rattle.std.proofs.Common.{Ok, drop}
use Rattle.nut_client.specs.Script.{commands}
use Rattle.nut_client.specs.inside.Between.{Goes, point}
use Rattle.nut_client.proofs.conversation.Conversation.put_commands.Given as goal

abbrev pub invariant-loop-row : goal.invariant-loop-row
invariant-loop-row g l =
    Goes (commands l.ups l.fn.text.items l.rows) (λ (done : Unit {0}). commands l.ups l.text.items (drop l.row-index l.rows)) (Ok tt)
    (point g.S.Stream.remaining g.S.Stream.taken g.S.Stream.has_ended l.fn.self.unread l.fn.stream) (point g.S.Stream.remaining g.S.Stream.taken g.S.Stream.has_ended l.self.unread l.stream)
