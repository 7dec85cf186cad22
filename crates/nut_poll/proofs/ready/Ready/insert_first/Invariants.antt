use Rattle.std.proofs.Common.{◌≡◌}
use Rattle.nut_poll.specs.Queue.{first_joined}
use Rattle.nut_poll.proofs.ready.Ready.insert_first.Given as goal

abbrev pub invariant-loop-n : goal.invariant-loop-n
invariant-loop-n l = l.self ≡ first_joined l.n l.fn.self
