use Rattle.std.proofs.Common.{◌≡◌, ◌+◌, ◌++◌, drop, length}
use Rattle.nut_server_spec.specs.Numbering.{given_numbers, kept_numbers, renumbered}
use Rattle.nut_server.proofs.numbering.Numbering.renumbered.Given as goal

abbrev pub invariant-loop-place : goal.invariant-loop-place
invariant-loop-place l =
    (length l.taken.items ≡ l.place + length (kept_numbers l.self (drop l.place l.after.upses))) × (length l.numbers.items ≡ l.place)
    × (l.numbers.items ++ given_numbers l.self l.taken.items (drop l.place l.after.upses) ≡ renumbered l.after.upses l.self)
