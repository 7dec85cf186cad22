use Rattle.std.proofs.Common.{arith, ap, ◌∙◌, ◌∷◌, [], ◌++◌, refl, sym}
use Rattle.nut_words.specs.inside.WordsInside.{text_of}
use Rattle.nut_words.proofs.CopiedWords.{counted, one_copy_more}
use Rattle.nut_words.proofs.words.Words.push.Goals as goal

pub push-requires-in-Copied : goal.push-requires-in-Copied
push-requires-in-Copied c = (omega arith, omega (arith, counted c.self.inside c.args.self.now c.self.view_is, c.requires))

pub returns-in_ok-push-in-Copied-clause-ok : goal.returns-in_ok-push-in-Copied-clause-ok
returns-in_ok-push-in-Copied-clause-ok c =
    one_copy_more c.self.inside c.args.self.now c.self.view_is _ c.push.new.self.items _ c.push-in-Copied.new.self.items c.self.invariant c.in_ok-push-in-Copied.ensures.items c.push-in-Copied.ensures.items refl c.len-place.ensures.value
    ∙ ap (λ w. c.args.self.now ++ text_of w ∷ []) (sym c.in-Copied.is)
