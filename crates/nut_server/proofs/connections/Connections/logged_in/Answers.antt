use Rattle.std.proofs.Common.{◌≡◌, ◌∙◌, sym, true, false, arith}
use Rattle.nut_server_spec.specs.Answer.{is_logged_in}
use Rattle.nut_server.proofs.Logins.{logins_below, logins_more}
use Rattle.nut_server.proofs.connections.Connections.logged_in.Goals.{then-is_logged_in, else-is_logged_in}
use Rattle.nut_server.proofs.connections.Connections.logged_in.Goals as goal

pub overflow_add-count : goal.overflow_add-count
overflow_add-count c = omega (arith, c.loop-index.invariant, logins_below c.args.u c.loop-index.index c.args.self.now, c.loop-index-test.true)

pub loop-index-preserved : goal.loop-index-preserved
loop-index-preserved c =
    let more = logins_more c.args.u c.loop-index.index c.args.self.now c.at.result.now c.at.ensures in
    elim c.if-is_logged_in.branch [
      | then-is_logged_in w ↦
          let is : is_logged_in c.args.u c.at.result.now.login ≡ true = sym c.is_logged_in.ensures ∙ w.if-is_logged_in.true in
          omega (arith, w.count-is, c.loop-index.invariant, rw is at more)
      | else-is_logged_in w ↦
          let is : is_logged_in c.args.u c.at.result.now.login ≡ false = sym c.is_logged_in.ensures ∙ w.if-is_logged_in.false in
          omega (arith, w.count-is, c.loop-index.invariant, rw is at more)
    ]

pub returns-clause-within : goal.returns-clause-within
returns-clause-within c = omega (arith, c.loop-index.invariant, logins_below c.args.u c.loop-index.index c.args.self.now, c.loop-index.auto.index-end, c.len-index-end.ensures.within)
