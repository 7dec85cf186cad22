use Rattle.std.proofs.Common.{◌≡◌, ◌≤◌, ◌++◌, drop, length}
use Rattle.nut_server_spec.specs.Numbering.{kept_numbers}
use Rattle.nut_server.proofs.numbering.Numbering.kept_by.Given as goal

abbrev pub invariant-loop-place : goal.invariant-loop-place
invariant-loop-place l =
    (length l.kept.items ≤ l.place) × (l.kept.items ++ kept_numbers l.self (drop l.place l.after.upses) ≡ kept_numbers l.self l.after.upses)
