use Rattle.std.proofs.Common.{◌∙◌, ap, arith, eqb}
use Rattle.nut_words.proofs.CopiedWords.{counted}
use Rattle.nut_words.proofs.words.Words.is_full.Goals as goal
use Rattle.nut_words.specs.declared.limits.TheConstants.{WORDS_MAX}

pub returns-clause-full : goal.returns-clause-full
returns-clause-full c = c.is_full.ensures.value ∙ ap (λ n. eqb n WORDS_MAX) (counted c.self.inside c.args.self.now c.self.view_is)

pub returns-clause-most : goal.returns-clause-most
returns-clause-most c = omega (arith, counted c.self.inside c.args.self.now c.self.view_is, c.is_full.ensures.fits)
