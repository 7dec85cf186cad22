use Rattle.std.proofs.Common.{sym, ◌∙◌, arith}
use Rattle.nut_words.proofs.PlainLemmas.{quoted_as_it_is}
use Rattle.nut_words.proofs.plain.quoted_text.Goals as goal

pub returns : goal.returns
returns c =
    quoted_as_it_is c.in_ok-first.first.now c.in_ok-last.last.now c.args.bytes.now c.in_ok-first.behind.now c.in_ok-last.text.now
    c.in_ok-first.ensures.cases c.in_ok-last.ensures.cases (omega (arith, c.if-first-ne34.false)) (omega (arith, c.if-last-ne34.false))
    (sym c.are_printing.ensures ∙ c.if-not-are_printing.false) (sym c.is_unescaped.ensures ∙ c.if-not-is_unescaped.false)
