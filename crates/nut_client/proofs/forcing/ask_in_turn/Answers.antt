use Rattle.std.proofs.Common.{◌+◌, drop, refl, sym}
use Rattle.std.proofs.lemmas.List.{at_drop_all}
use Rattle.nut_client.specs.Forcing.{in_turn}
use Rattle.nut_client.proofs.InTurn.{goes_on, lines_on}
use Rattle.nut_client.proofs.Parts.{ends_at, stays, turns}
use Rattle.nut_client.proofs.Runs.{append_none}
use Rattle.nut_client.proofs.forcing.ask_in_turn.Goals as goal

pub loop-query-init : goal.loop-query-init
loop-query-init g c = record { goes = stays refl; asked = sym (append_none _) }

pub returns-clause-goes : goal.returns-clause-goes
returns-clause-goes g c = turns c.loop-query.invariant.goes (at_drop_all in_turn c.args.queries.now c.loop-query.query-index c.loop-query-test.false)

pub returns-in_err-done-clause-goes : goal.returns-in_err-done-clause-goes
returns-in_err-done-clause-goes g c =
    let i = c.loop-query.query-index in
    ends_at c.from_residual.result c.from_residual.ensures.1
    (goes_on c.args.queries.now i c.query-item.result _ _ _ _ c.loop-query-test.true c.query-item.is c.loop-query.invariant.goes (c.in_err-done.ensures.goes (in_turn (drop (i + 1) c.args.queries.now))))

pub loop-query-preserved : goal.loop-query-preserved
loop-query-preserved g c =
    let i = c.loop-query.query-index in
    record {
      goes = goes_on c.args.queries.now i c.query-item.result _ _ _ _ c.loop-query-test.true c.query-item.is c.loop-query.invariant.goes (c.in_ok-done.ensures.goes (in_turn (drop (i + 1) c.args.queries.now)));
      asked = lines_on c.args.queries.now i c.query-item.result _ _ _ c.loop-query-test.true c.query-item.is c.loop-query.invariant.asked c.in_ok-done.ensures.asked;
    }
