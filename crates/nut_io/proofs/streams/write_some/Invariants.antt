-- A write that was interrupted took no byte.
use Rattle.std.specs.Io.KnownBytes.{Keeps}
use Rattle.nut_io.proofs.streams.write_some.Given as goal

abbrev pub invariant-loop : goal.invariant-loop
invariant-loop g l = Keeps (g.T.Write.contents l.fn.output) (g.T.Write.contents l.output)
