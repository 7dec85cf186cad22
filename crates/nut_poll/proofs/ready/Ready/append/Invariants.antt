use Rattle.std.proofs.Common.{◌≡◌, length, [], ◌+◌}
use Rattle.nut_poll.specs.Queue.{Looks, all_joined}
use Rattle.nut_poll.proofs.ready.Ready.append.Given as goal

abbrev pub invariant-loop-taken : goal.invariant-loop-taken
invariant-loop-taken l = Looks [] l.fn.self l.self
    × (all_joined l.other.waiting l.self ≡ all_joined l.fn.other.waiting l.fn.self)
    × (l.other.round ≡ length l.other.waiting)
    × (l.other.round + l._taken ≡ length l.fn.other.waiting)
