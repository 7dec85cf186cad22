use Rattle.std.proofs.Common.{◌≡◌, map}
use Rattle.nut_poll.specs.Queue.{all_joined, reported}
use Rattle.nut_poll.proofs.ready.Ready.insert_all.Given as goal

abbrev pub invariant-loop-event : goal.invariant-loop-event
invariant-loop-event l = l.self ≡ all_joined (reported (map (λ e. e.now) l.yielded)) l.fn.self
