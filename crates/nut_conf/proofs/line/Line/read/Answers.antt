use Rattle.std.proofs.Common.{sym}
use Rattle.nut_conf.proofs.PrintingWords.{printing_of, words_of-empty}
use Rattle.nut_conf.proofs.line.Line.read.Goals as goal

pub invariant_of-result-clause-printing : goal.invariant_of-result-clause-printing
invariant_of-result-clause-printing c = printing_of c.args.bytes.now c.in_ok-words.words c.in_ok-words.ensures.words

pub returns-then-is_empty-clause-line : goal.returns-then-is_empty-clause-line
returns-then-is_empty-clause-line c = words_of-empty c.args.bytes.now (sym (c.if-is_empty.ensures {u = tt}))
