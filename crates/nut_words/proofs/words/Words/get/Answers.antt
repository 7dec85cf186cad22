use Rattle.nut_words.proofs.CopiedWords.{copy_there}
use Rattle.nut_words.proofs.words.Words.get.Goals as goal

pub returns-in-Some : goal.returns-in-Some
returns-in-Some c = copy_there c.self.inside c.args.self.now c.self.view_is c.as_slice.result.now c.args.i c.in-Some.text.now c.self.invariant c.as_slice.ensures.value c.in-Some.ensures.some
