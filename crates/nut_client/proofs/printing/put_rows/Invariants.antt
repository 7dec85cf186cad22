use Rattle.std.proofs.Common.{◌≡◌, ◌++◌, take}
use Rattle.nut_client.specs.Script.{row_lines}
use Rattle.nut_client.proofs.printing.put_rows.Given as goal

abbrev pub invariant-loop-row : goal.invariant-loop-row
invariant-loop-row l = l.out.items ≡ l.fn.out.items ++ row_lines l.form (take l.row-index l.rows)
