use Rattle.std.proofs.Common.{arith, ◌+◌, ◌-◌, length, drop, take_all, length-drop}
use Rattle.nut_words.proofs.CutLemmas.{cut-first, cut-only}
use Rattle.nut_words.proofs.parts.cut.Goals as goal

pub returns-in-Some-clause-parts : goal.returns-in-Some-clause-parts
returns-in-Some-clause-parts c =
    let bytes = c.args.bytes.now in
    let at = c.in-Some.at in
    let found = c.in-Some.ensures {u = tt} in
    rw (take_all (length bytes - (at + 1)) (drop (at + 1) bytes) (omega (arith, length-drop (at + 1) bytes)))
    (cut-first c.args.byte bytes at found.0.high (λ k lt. found.0.before k (omega arith) lt) found.1)

pub returns-in-None-clause-parts : goal.returns-in-None-clause-parts
returns-in-None-clause-parts c = cut-only c.args.byte c.args.bytes.now (λ k lt. c.in-None.ensures {u = tt} k (omega arith) lt)
