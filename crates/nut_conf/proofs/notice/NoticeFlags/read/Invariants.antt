use Rattle.std.proofs.Common.{◌≡◌, ◌++◌, true}
use Rattle.std.specs.List.{list_all}
use Rattle.nut_conf.specs.Values.{Words}
use Rattle.nut_conf.specs.Notices.{plus_parts, flags_in, is_flag}
use Rattle.nut_words.proofs.CutLemmas.{pending, left}
use Rattle.nut_conf.proofs.notice.NoticeFlags.read.Given as goal

-- The flags are those of the parts so far, all of which are known.
abbrev pub invariant-loop-rest : goal.invariant-loop-rest
invariant-loop-rest l = (done : Words) × record {
  parts : plus_parts l.bytes ≡ done ++ pending 43 l.rest;
  known : list_all is_flag done ≡ true;
  flags : l.flags ≡ flags_in done;
}

abbrev pub decreases-loop-rest : goal.decreases-loop-rest
decreases-loop-rest l = left l.rest
