use Rattle.std.proofs.Common.{◌≡◌, ℕ, ◌+◌, ◌≤◌, List, [], ◌++◌, Ok, length}
use Rattle.nut_conf.specs.Values.{Words}
use Rattle.nut_conf.specs.Files.{lines_of, read_lines}
use Rattle.nut_words.proofs.CutLemmas.{pending, left}
use Rattle.nut_conf.proofs.file.read_draft.Given as goal
use Rattle.nut_conf.specs.declared.limits.TheConstants.{FILE_MAX}

-- Reading the lines that are left, after those read so far, gives what reading the file gives.
abbrev pub invariant-loop-rest : goal.invariant-loop-rest
invariant-loop-rest g l = (before : List Words) × (front : List (List ℕ)) × record {
  taken : lines_of l.bytes ≡ front ++ pending 10 l.rest;
  count : l.number ≡ length front;
  reads : read_lines g.D.Draft.fault [] 1 front ≡ Ok before;
  holds : g.D.Draft.Holds l.draft before;
  completes : read_lines g.D.Draft.fault before (l.number + 1) (pending 10 l.rest) ≡ read_lines g.D.Draft.fault [] 1 (lines_of l.bytes);
  room : l.number + left l.rest ≤ length l.bytes + 1;
  short : length l.bytes ≤ FILE_MAX;
}

abbrev pub decreases-loop-rest : goal.decreases-loop-rest
decreases-loop-rest g l = left l.rest
