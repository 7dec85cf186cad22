use Rattle.std.proofs.Common.{◌∙◌}
use Rattle.nut_words.proofs.CopiedWords.{counted}
use Rattle.nut_words.proofs.words.Words.len.Goals as goal

pub returns-clause-len : goal.returns-clause-len
returns-clause-len c = c.len.ensures.value ∙ counted c.self.inside c.args.self.now c.self.view_is
