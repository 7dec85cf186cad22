use Rattle.std.proofs.Common.{sym, ◌∙◌}
use Rattle.nut_poll.proofs.QueueLemmas.{all_joined_none}
use Rattle.nut_poll.proofs.ready.Ready.append.Goals as goal

pub returns-in_default-clause-joined : goal.returns-in_default-clause-joined
returns-in_default-clause-joined c = all_joined_none c.loop-taken.self c.loop-taken.other
    (sym c.loop-taken.invariant.2 ∙ c.in_default.ensures.taken.0) ∙ c.loop-taken.invariant.1
