use Rattle.std.proofs.Common.{arith}
use Rattle.nut_words.proofs.CopiedWords.{counted, one_more}
use Rattle.nut_words.proofs.words.Words.push_lent.Goals as goal

pub push-requires : goal.push-requires
push-requires c = (omega arith, omega (arith, counted c.self.inside c.args.self.now c.self.view_is, c.requires))

pub returns : goal.returns
returns c = one_more c.self.inside c.args.self.now c.self.view_is c.args.text c.push.new.self.items c.self.invariant c.push.ensures.items
