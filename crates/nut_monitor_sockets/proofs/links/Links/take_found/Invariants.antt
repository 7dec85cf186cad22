use Rattle.std.proofs.Common.{[]}
use Rattle.nut_poll.specs.Turns.{Heeds}
use Rattle.nut_monitor_sockets.proofs.links.Links.take_found.Given as goal

abbrev pub invariant-loop-i : goal.invariant-loop-i
invariant-loop-i l = Heeds [] l.fn.self.rounds l.self.1.0
