use Rattle.std.proofs.Common.{◌∙◌, ap, length}
use Rattle.nut_server_spec.specs.Acceptance.{session_of}
use Rattle.nut_server_loop.specs.declared.types.Peer.TheVariants.{Connection, Driver}
use Rattle.nut_server_loop.proofs.Settles.{settled_to, left_to, still_settled, nobody_leaves, none_unsettled, number}
use Rattle.nut_server_loop.proofs.settling.settle_all.Goals as goal

pub loop-c-preserved : goal.loop-c-preserved
loop-c-preserved g c =
    record {
      same_count = c.in_ok-settle.ensures.goes.counted ∙ c.loop-c.invariant.same_count;
      served = c.in_ok-settle.ensures.goes.ok;
      reached = c.in_ok-settle.ensures.goes.reached;
      settled = settled_to Connection (λ m n same. ap number same) _ _ _ _ c.loop-c.«from» c.in-Some.c (λ d least less. (none_unsettled (session_of d c.loop-c.server.sessions) (c.in-Some.ensures.next.2 d least less)).0)
          c.in_ok-settle.ensures.only c.in_ok-settle.ensures.settled c.loop-c.invariant.settled;
      left = left_to _ _ _ _ c.loop-c.«from» c.in-Some.c (λ d least less. (none_unsettled (session_of d c.loop-c.server.sessions) (c.in-Some.ensures.next.2 d least less)).1)
          c.in_ok-settle.ensures.only c.in_ok-settle.ensures.left c.loop-c.invariant.left;
    }

pub loop-u-preserved : goal.loop-u-preserved
loop-u-preserved g c =
    record {
      same_count = c.in_ok-flush.ensures.goes.counted ∙ c.loop-u.invariant.same_count;
      served = c.in_ok-flush.ensures.goes.ok;
      reached = c.in_ok-flush.ensures.goes.reached;
      settled = λ d. still_settled _ _ _ _ (Driver c.in-Some-next_driver_waiting.u) (Connection d) c.in_ok-flush.ensures.only (λ same. absurd (cc)) (c.loop-u.invariant.settled d);
      left = nobody_leaves _ _ _ _ c.in-Some-next_driver_waiting.u c.in_ok-flush.ensures.only c.loop-u.invariant.left;
      requests = settled_to Driver (λ m n same. ap number same) _ _ _ _ c.loop-u.«from» c.in-Some-next_driver_waiting.u
          (λ v least less. ap length (c.in-Some-next_driver_waiting.ensures.next.2 v least less))
          c.in_ok-flush.ensures.only c.in_ok-flush.ensures.settled c.loop-u.invariant.requests;
    }
