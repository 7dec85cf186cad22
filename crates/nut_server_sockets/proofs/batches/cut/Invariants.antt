use Rattle.std.proofs.Common.{length, ◌-◌}
use Rattle.nut_server_sockets.proofs.BatchLemmas.{Reached}
use Rattle.nut_server_sockets.proofs.batches.cut.Given as goal

abbrev pub invariant-loop-start : goal.invariant-loop-start
invariant-loop-start l = Reached l.is_begun l.piece l.start

abbrev pub decreases-loop-start : goal.decreases-loop-start
decreases-loop-start l = length l.piece - l.start
