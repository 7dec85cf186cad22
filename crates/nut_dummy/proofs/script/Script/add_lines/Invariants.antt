use Rattle.std.proofs.Common.{◌≡◌, ◌+◌, ◌*◌, ◌≤◌, ◌++◌, ℕ, List, length}
use Rattle.nut_words.specs.Lines.{parts}
use Rattle.nut_dummy.specs.Memory.{Makes}
use Rattle.nut_words.proofs.CutLemmas.{pending, left}
use Rattle.nut_dummy.proofs.script.Script.add_lines.Given as goal

-- the lines so far made the script, and the others are left
abbrev pub invariant-loop-rest : goal.invariant-loop-rest
invariant-loop-rest l = (front : List (List ℕ)) × record {
  taken : parts l.bytes ≡ front ++ pending 10 l.rest;
  count : l.number ≡ length front;
  makes : Makes l.kind front l.self;
  room : l.number + left l.rest ≤ length l.bytes + 1;
  round : l.self.round ≤ 86400 * l.number;
}

abbrev pub decreases-loop-rest : goal.decreases-loop-rest
decreases-loop-rest l = left l.rest
