use Rattle.std.proofs.Common.{◌≡◌}
use Rattle.nut_server_spec.specs.Tracking.{abandoned}
use Rattle.nut_server.proofs.FatesMet.{swept}
use Rattle.nut_server.proofs.tracked.abandon_all.Given as goal

abbrev pub invariant-loop-request : goal.invariant-loop-request
invariant-loop-request l = l.requests ≡ swept (λ t. record { number = t.number; status = abandoned t.status }) l.request-index l.fn.requests
