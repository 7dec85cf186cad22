use Rattle.std.specs.Prelude.{IfSome}
use Rattle.std.specs.List.{AllByRecursion}
use Rattle.nut_halter.specs.Obeyed.{IsQuiet, Obeys}
use Rattle.nut_halter.proofs.obey.Given as goal

abbrev pub invariant-loop : goal.invariant-loop
invariant-loop g l =
    IfSome (g.H.Halter.log l.halter) (AllByRecursion IsQuiet) × Obeys (g.O.Orders.given l.orders) (g.H.Halter.log l.halter)
