use Rattle.std.proofs.Common.{◌≡◌, ◌≤◌}
use Rattle.nut_client.proofs.unread.read_some.Given as goal

abbrev pub invariant-loop-n : goal.invariant-loop-n
invariant-loop-n g l = record {
  remaining : g.S.Stream.remaining l.stream ≡ g.S.Stream.remaining l.fn.stream;
  lowers : g.S.Stream.calls_left l.stream ≤ g.S.Stream.calls_left l.fn.stream;
  taken : g.S.Stream.taken l.stream ≡ g.S.Stream.taken l.fn.stream;
}

abbrev pub decreases-loop-n : goal.decreases-loop-n
decreases-loop-n g l = g.S.Stream.calls_left l.stream
