use Rattle.std.proofs.Common.{◌≡◌, Some}
use Rattle.nut_server_spec.specs.Tracking.{ended_by}
use Rattle.nut_server.proofs.FatesMet.{swept}
use Rattle.nut_server.proofs.tracked.end_one.Given as goal

abbrev pub invariant-loop-request : goal.invariant-loop-request
invariant-loop-request l = l.requests ≡ swept (λ t. record { number = t.number; status = ended_by (Some (l.number, l.status)) t.number t.status }) l.request-index l.fn.requests
