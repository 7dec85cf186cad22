use Rattle.std.proofs.Common.{◌≡◌}
use Rattle.std.specs.Io.KnownBytes.{append_known}
use Rattle.nut_proto.specs.Requests.{request_line}
use Rattle.nut_client.specs.inside.Between.{point}
use Rattle.nut_client.specs.inside.Conversation.{Asking, Awaits}
use Rattle.nut_client.specs.inside.Unread.{steps_left}
use Rattle.nut_client.proofs.conversation.ask_over.Given as goal

abbrev pub invariant-loop-outcome : goal.invariant-loop-outcome
invariant-loop-outcome g l = record {
  awaits : Awaits l.link l.length;
  asking : Asking l.request (point g.S.Stream.remaining g.S.Stream.taken g.S.Stream.has_ended l.fn.unread l.fn.stream) l.link (point g.S.Stream.remaining g.S.Stream.taken g.S.Stream.has_ended l.unread l.stream);
  asked : g.S.Stream.taken l.stream ≡ append_known (g.S.Stream.taken l.fn.stream) (request_line l.request);
}

abbrev pub decreases-loop-outcome : goal.decreases-loop-outcome
decreases-loop-outcome g l = steps_left (g.S.Stream.calls_left l.stream) l.unread
