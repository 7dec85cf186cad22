use Rattle.std.proofs.Common.{◌≡◌, true, rules, sym}
use Rattle.nut_words.proofs.Written.{at_err}
use Rattle.nut_dummy.specs.Teller.{is_told}
use Rattle.nut_dummy.specs.inside.Changes.{change_of}
use Rattle.nut_dummy.proofs.MemoryLemmas.{says_some}
use Rattle.nut_dummy.proofs.variable.Variable.say.Goals as goal

pub returns-in-Some-clause-err : goal.returns-in-Some-clause-err
returns-in-Some-clause-err c =
    let v = c.args.self.now in
    let told : is_told (change_of c.args.change.now) v.name v.steps v.value ≡ true = search rules in
    at_err c.put_variable.result (says_some (change_of c.args.change.now) v c.in-Some.value.now told (sym c.in-Some.ensures.value))
