use Rattle.std.proofs.Common.{◌≤◌, ◌+◌, ◌-◌, take, length}
use Rattle.std.specs.Io.KnownBytes.{Appends}
use Rattle.nut_client.proofs.engine.put_all.Given as goal

abbrev pub invariant-loop-at : goal.invariant-loop-at
invariant-loop-at g l = record {
  within : l.at ≤ length l.bytes;
  wrote : Appends (g.O.Output.contents l.fn.output) (g.O.Output.contents l.output) (take l.at l.bytes);
}

abbrev pub decreases-loop-at : goal.decreases-loop-at
decreases-loop-at g l = g.O.Output.tries_left l.output + (length l.bytes - l.at)
