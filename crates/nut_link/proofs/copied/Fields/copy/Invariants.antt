use Rattle.std.proofs.Common.{◌≡◌, ◌++◌, ◌≤◌, drop}
use Rattle.nut_link.proofs.copied.Fields.copy.Given as goal

abbrev pub invariant-loop-i : goal.invariant-loop-i
invariant-loop-i l = record {
  begun : l.start ≤ l.i;
  copied : l.copies.items ++ drop l.i l.words ≡ drop l.start l.words;
}
