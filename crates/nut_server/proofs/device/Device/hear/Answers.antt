use Rattle.std.proofs.Common.{◌≡◌, ◌<◌, Some, ◌∙◌}
use Rattle.nut_server_spec.specs.Acceptance.{front, line_feeds}
use Rattle.nut_server_spec.specs.machine.MachineOutcome.{RunsOutOf}
use Rattle.nut_server_spec.specs.machine.Machine.{bytes_reported}
use Rattle.nut_server_spec.specs.Content.{down}
use Rattle.nut_server.specs.contracts.device.Device.{the_view}
use Rattle.nut_server.proofs.Reports.{report_heard, report_stopped}
use Rattle.nut_server.proofs.device.Device.hear.Goals as goal

pub returns-in-Ok-clause-ok : goal.returns-in-Ok-clause-ok
returns-in-Ok-clause-ok c =
    let h = c.hear_lines-done in
    let d = the_view c.self.inside in
    report_heard c.args.time c.self.invariant.0 c.args.piece.now d.rest h.new.cutter d.device h.new.hearer c.args.self.now c.self.invariant.1 c.self.view_is
    (rw c.in-Ok.is at h.ensures.rest) (rw c.in-Ok.is at h.ensures.heard)

-- where it stopped
stopped : (c : goal.After-down) → (c.hear_lines-done.result.0 < line_feeds c.args.piece.now)
    × (down (record { device = c.hear_lines-done.new.hearer; rest = c.hear_lines-done.new.cutter }) ≡ down (bytes_reported c.args.time (front c.hear_lines-done.result.0 c.args.piece.now) c.args.self.now))
    × RunsOutOf c.args.time c.args.piece.now c.hear_lines-done.result.0 (Some c.args.self.now)
stopped c =
    let h = c.hear_lines-done in
    let d = the_view c.self.inside in
    report_stopped c.args.time c.self.invariant.0 c.args.piece.now d.rest h.new.cutter d.device h.new.hearer c.args.self.now h.result.0 c.self.invariant.1 c.self.view_is (rw c.in-Err.is at h.ensures.stops)

pub returns-in-Err-clause-lost : goal.returns-in-Err-clause-lost
returns-in-Err-clause-lost c = c.down.ensures ∙ (stopped c).1

pub returns-in-Err-clause-few : goal.returns-in-Err-clause-few
returns-in-Err-clause-few c = (stopped c).0

pub returns-in-Err-clause-memory : goal.returns-in-Err-clause-memory
returns-in-Err-clause-memory c = (stopped c).2
