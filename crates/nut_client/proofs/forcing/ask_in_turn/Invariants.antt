use Rattle.std.proofs.Common.{◌≡◌, Ok, drop, take}
use Rattle.std.specs.Io.KnownBytes.{append_known}
use Rattle.nut_client.specs.Forcing.{in_turn, query_lines}
use Rattle.nut_client.specs.inside.Between.{Goes, point}
use Rattle.nut_client.proofs.forcing.ask_in_turn.Given as goal

abbrev pub invariant-loop-query : goal.invariant-loop-query
invariant-loop-query g l = record {
  goes : Goes (in_turn l.queries) (λ (done : Unit {0}). in_turn (drop l.query-index l.queries)) (Ok tt)
      (point g.S.Stream.remaining g.S.Stream.taken g.S.Stream.has_ended l.fn.conversation.unread l.fn.stream) (point g.S.Stream.remaining g.S.Stream.taken g.S.Stream.has_ended l.conversation.unread l.stream);
  asked : g.S.Stream.taken l.stream ≡ append_known (g.S.Stream.taken l.fn.stream) (query_lines (take l.query-index l.queries));
}
