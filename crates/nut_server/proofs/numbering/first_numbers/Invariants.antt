use Rattle.std.proofs.Common.{◌≡◌}
use Rattle.nut_server_spec.specs.Numbering.{below}
use Rattle.nut_server.proofs.numbering.first_numbers.Given as goal

abbrev pub invariant-loop-number : goal.invariant-loop-number
invariant-loop-number l = l.numbers.items ≡ below l.number
