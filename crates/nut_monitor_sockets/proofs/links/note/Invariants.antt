use Rattle.std.proofs.Common.{◌≡◌, ℕ, true, map}
use Rattle.std.specs.Prelude.{slice_get}
use Rattle.nut_poll.specs.Queue.{is_waiting, reported}
use Rattle.nut_monitor_sockets.specs.Turns.{IsNoted}
use Rattle.nut_monitor_sockets.proofs.links.note.Given as goal

abbrev pub invariant-loop-event : goal.invariant-loop-event
invariant-loop-event l = (i : ℕ) → is_waiting i (reported (map (λ e. e.now) l.yielded)) ≡ true → IsNoted (slice_get l.upstreams.items i)
