use Rattle.std.proofs.Common.{Some, IsTrue, arith, codes, sym, ap, subst}
use Rattle.std.proofs.lemmas.Result.{on_err_weaker}
use Rattle.nut_dummy.specs.Teller.{dump}
use Rattle.nut_dummy.specs.inside.Machine.{answered, tells_more}
use Rattle.nut_dummy.proofs.MemoryLemmas.{dump_some, longer}
use Rattle.nut_dummy.proofs.teller.Teller.obey.Goals as goal

pub returns-in-Ping-clause-err : goal.returns-in-Ping-clause-err
returns-in-Ping-clause-err c =
    let s = c.args.self.now in
    let asked = ap Some c.in-Ping.is in
    on_err_weaker c.push.result (λ same. (cc, subst (λ ask. IsTrue (tells_more s (answered ask s))) (sym asked) (longer s.waits (codes "PONG\n") (omega arith)))) c.push.ensures.err

pub returns-in-DumpAll-clause-err : goal.returns-in-DumpAll-clause-err
returns-in-DumpAll-clause-err c =
    let s = c.args.self.now in
    let asked = ap Some c.in-DumpAll.is in
    on_err_weaker c.dump.result (λ same. (same, subst (λ ask. IsTrue (tells_more s (answered ask s))) (sym asked) (longer s.waits (dump s.variables) (dump_some s.variables)))) c.dump.ensures.err
