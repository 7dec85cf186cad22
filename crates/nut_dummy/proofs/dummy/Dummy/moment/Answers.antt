use Rattle.std.proofs.Common.{◌≡◌, None, rules}
use Rattle.nut_dummy.specs.History.{Moment, refusal}
use Rattle.nut_dummy.specs.inside.Machine.{passed}
use Rattle.nut_dummy.proofs.HistoryLemmas.{one_more}
use Rattle.nut_dummy.proofs.dummy.Dummy.moment.Goals as goal

pub returns-clause-leads : goal.returns-clause-leads
returns-clause-leads c = λ script start h s.
    let idle : refusal (Moment c.args.t) c.args.self.now ≡ None = search rules in
    let moved : c.pass.new.self ≡ passed c.args.t c.args.self.now = search rules in
    one_more script start h c.args.self.now s (Moment c.args.t) c.pass.new.self idle moved
