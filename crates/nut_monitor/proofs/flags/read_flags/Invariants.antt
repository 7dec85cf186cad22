use Rattle.std.proofs.Common.{◌≡◌, ◌++◌, List, ℕ}
use Rattle.nut_monitor_spec.specs.Query.{flags_of, parted}
use Rattle.nut_words.proofs.CutLemmas.{pending, left}
use Rattle.nut_monitor.proofs.flags.read_flags.Given as goal

-- the flags are those of the words read so far
abbrev pub invariant-loop-rest : goal.invariant-loop-rest
invariant-loop-rest l = (done : List (List ℕ)) × record {
  words : parted l.value ≡ done ++ pending 32 l.rest;
  flags : l.flags ≡ flags_of done;
}

abbrev pub decreases-loop-rest : goal.decreases-loop-rest
decreases-loop-rest l = left l.rest
