use Rattle.std.proofs.Common.{◌≡◌, ◌-◌, length}
use Rattle.nut_server_spec.specs.Numbering.{first_free, least_free}
use Rattle.nut_server.proofs.numbering.least_free.Given as goal

abbrev pub invariant-loop-number : goal.invariant-loop-number
invariant-loop-number l = first_free (length l.taken - l.number-counter) l.number-counter l.taken ≡ least_free l.taken
