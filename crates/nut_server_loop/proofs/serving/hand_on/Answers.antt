use Rattle.std.proofs.Common.{rules, ◌<◌, ◌+◌, ◌-◌, ◌^◌, is_ok, if◌then◌else◌, Some, None, refl, sym, ◌∙◌, ap, subst}
use Rattle.nut_server_loop.proofs.Steps.{faulted, stays, nobody_late, goes_then}
use Rattle.nut_server_loop.proofs.Writes.{closes_ended}
use Rattle.nut_server_loop.proofs.Arrivals.{gave_ending, gave_none, waits_on, waits_not}
use Rattle.nut_server_loop.proofs.serving.hand_on.Goals as goal

pub settle_heard-requires : goal.settle_heard-requires
settle_heard-requires g c = λ _ within. (
  within,
  record {
    few = subst (λ n. n < 2 ^ 64 - 1) (sym c.told.ensures.counted) c.requires.1.0;
    served = nobody_late g.first _ _ _ _ (λ p. c.told.ensures.late p ∙ c.requires.1.1.1.0 p) (stays g.first _ _ _ _ c.told.ensures.log (gave_ending g.first _ _ _ _ _ _ _ _ _ None c.requires.1.1.1.1 c.arrival_of.ensures c.in-Some.is c.requires.1.1.0 c.arrive-answer.ensures.answered c.arrive-answer.ensures.stands c.ended_by.ensures c.in-None.is));
    reached = g.met.W.World.reached_self _;
  },
)

pub returns-in_default : goal.returns-in_default
returns-in_default g c = record {
  goes = λ start leads.
      record {
        ok = nobody_late g.first _ _ _ _ c.requires.1.1.1.0 (gave_none g.first _ _ _ _ _ c.requires.1.1.1.1 c.arrival_of.ensures c.in_default.is);
        err = search rules;
        counted = search rules;
        reached = waits_not _ _ c.arrival_of.ensures c.in_default.is leads;
      };
}

pub returns-in-None : goal.returns-in-None
returns-in-None g c = record {
  goes = λ start leads.
      goes_then _ _ _ _ _ _ _ _ _ _ _ _ refl c.settle_heard.ensures.goes refl (λ p. refl) refl c.told.ensures.counted
      (g.met.W.World.reached_on _ _ _ (c.told.ensures.reached _ (waits_on _ _ _ c.arrival_of.ensures c.in-Some.is leads)) c.settle_heard.ensures.goes.reached);
}

pub returns-in-Some-ended_by : goal.returns-in-Some-ended_by
returns-in-Some-ended_by g c = record {
  goes = λ start leads.
      let served = stays g.first _ _ _ _ c.told.ensures.log (gave_ending g.first _ _ _ _ _ _ _ _ _ (Some c.in-Some-ended_by.peer) c.requires.1.1.1.1 c.arrival_of.ensures c.in-Some.is c.requires.1.1.0 c.arrive-answer.ensures.answered c.arrive-answer.ensures.stands c.ended_by.ensures c.in-Some-ended_by.is) in
      record {
        ok = closes_ended _ g.first _ _ _ _ _ c.in-Some-ended_by.peer (nobody_late g.first _ _ _ _ (λ p. c.told.ensures.late p ∙ c.requires.1.1.1.0 p) served) c.close.ensures.step.ok c.close.ensures.late;
        err = faulted _ g.first _ _ _ _ served c.close.ensures.step.err;
        counted = c.close.ensures.step.counted ∙ ap (λ n. if is_ok c.close.result then n else n + 1) c.told.ensures.counted;
        reached = g.met.W.World.reached_on _ _ _ (c.told.ensures.reached _ (waits_on _ _ _ c.arrival_of.ensures c.in-Some.is leads)) c.close.ensures.step.reached;
      };
}
