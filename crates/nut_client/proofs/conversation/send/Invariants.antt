use Rattle.std.proofs.Common.{◌≡◌, ◌+◌, length}
use Rattle.nut_link.specs.Link.{waits}
use Rattle.nut_client.specs.inside.Sending.{IsSending}
use Rattle.nut_client.proofs.conversation.send.Given as goal

abbrev pub invariant-loop-stream : goal.invariant-loop-stream
invariant-loop-stream g l = record {
  sending : IsSending l.request l.link (g.S.Stream.taken l.fn.stream) (g.S.Stream.taken l.stream);
  remaining : g.S.Stream.remaining l.stream ≡ g.S.Stream.remaining l.fn.stream;
}

abbrev pub decreases-loop-stream : goal.decreases-loop-stream
decreases-loop-stream g l = g.S.Stream.calls_left l.stream + length (waits l.link.exchange)
