use Rattle.nut_words.proofs.Written.{at_err}
use Rattle.nut_dummy.specs.Teller.{says}
use Rattle.nut_dummy.specs.inside.Changes.{change_of}
use Rattle.nut_dummy.proofs.MemoryLemmas.{one_says}
use Rattle.nut_dummy.proofs.telling.say_all.Goals as goal

pub returns-in_err-say-clause-err : goal.returns-in_err-say-clause-err
returns-in_err-say-clause-err c =
    at_err c.from_residual.result (one_says (says (change_of c.args.change.now)) c.args.variables.now c.loop-variable.variable-index c.variable-item.result
    c.loop-variable-test.true c.variable-item.is c.in_err-say.ensures.err)
