use Rattle.std.proofs.Common.{◌∙◌, Some}
use Rattle.nut_server_spec.specs.Tracking.{ended_by}
use Rattle.nut_server.proofs.FatesMet.{met_step, swept_all}
use Rattle.nut_server.proofs.tracked.end_one.Goals as goal

pub loop-request-preserved : goal.loop-request-preserved
loop-request-preserved c =
    met_step (λ k t. record { number = t.number; status = ended_by (Some (c.args.number, c.args.status)) t.number t.status }) c.loop-request.requests c.args.requests.now c.loop-request.request-index c.request-item.result c.end.new.self
    c.loop-request-test.true c.loop-request.invariant c.end.ensures

pub returns : goal.returns
returns c = c.loop-request.invariant ∙ swept_all (λ t. record { number = t.number; status = ended_by (Some (c.args.number, c.args.status)) t.number t.status }) c.loop-request.request-index 0 c.args.requests.now c.loop-request-test.false
