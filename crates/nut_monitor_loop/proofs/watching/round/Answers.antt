use Rattle.std.proofs.Common.{rules, ◌+◌, ◌∙◌, ap, is_ok, if◌then◌else◌}
use Rattle.nut_monitor_loop.proofs.watching.round.Goals as goal

pub returns-then-not-branch-clause-goes : goal.returns-then-not-branch-clause-goes
returns-then-not-branch-clause-goes g c =
    record {
      ok = c.in_ok-settle_links.ensures.goes.ok;
      err = search rules;
      counted = c.in_ok-settle_links.ensures.goes.counted ∙ c.in_ok-tell_all.ensures.goes.counted;
      config = search rules;
    }

pub returns-clause-goes : goal.returns-clause-goes
returns-clause-goes g c =
    record {
      ok = c.turn.ensures.goes.ok;
      err = c.turn.ensures.goes.err;
      counted = c.turn.ensures.goes.counted
          ∙ ap (λ n. if is_ok c.turn.result then n else n + 1) (c.in_ok-settle_links.ensures.goes.counted ∙ c.in_ok-tell_all.ensures.goes.counted);
      config = c.turn.ensures.goes.config;
    }

pub returns-clause-told : goal.returns-clause-told
returns-clause-told g c = c.turn.ensures.told

pub returns-clause-ended : goal.returns-clause-ended
returns-clause-ended g c = c.turn.ensures.ended
