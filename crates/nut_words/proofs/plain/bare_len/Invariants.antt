use Rattle.std.proofs.Common.{◌≡◌, true, length, ◌-◌, ◌≤◌, take}
use Rattle.std.specs.List.{list_all}
use Rattle.nut_words.specs.Spelling.{is_bare}
use Rattle.nut_words.proofs.plain.bare_len.Given as goal

abbrev pub invariant-loop-len : goal.invariant-loop-len
invariant-loop-len l = record {
  within : l.len ≤ length l.bytes;
  bare : list_all is_bare (take l.len l.bytes) ≡ true;
}

abbrev pub decreases-loop-len : goal.decreases-loop-len
decreases-loop-len l = length l.bytes - l.len

abbrev pub invariant-loop-len-2 : goal.invariant-loop-len-2
invariant-loop-len-2 l = record {
  within : l.len ≤ length l.bytes;
  bare : list_all is_bare (take l.len l.bytes) ≡ true;
}

abbrev pub decreases-loop-len-2 : goal.decreases-loop-len-2
decreases-loop-len-2 l = length l.bytes - l.len
