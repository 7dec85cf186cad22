-- A read that was interrupted gave no byte.
use Rattle.std.specs.Io.KnownBytes.{Keeps}
use Rattle.nut_io.proofs.streams.read_some.Given as goal

abbrev pub invariant-loop : goal.invariant-loop
invariant-loop g l = Keeps (g.R.Read.remaining l.fn.input) (g.R.Read.remaining l.input)
