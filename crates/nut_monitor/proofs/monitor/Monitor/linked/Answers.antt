use Rattle.std.proofs.Common.{false, ap, ◌∙◌}
use Rattle.nut_monitor_spec.specs.Acceptance.{is_linked, watch_at}
use Rattle.nut_monitor.specs.Monitors.{MonitorValue}
use Rattle.nut_monitor.proofs.Arrives.{linked_told}
use Rattle.nut_monitor.proofs.monitor.Monitor.linked.Goals as goal

pub returns-in-Some-clause-told : goal.returns-in-Some-clause-told
returns-in-Some-clause-told c =
    linked_told c.args.self.now.content c.args.i c.is_linked.result
    (c.is_linked.ensures ∙ ap is_linked c.in-Some.ensures ∙ ap (λ (m : MonitorValue). is_linked (watch_at c.args.i m.content.watches)) c.self.view_is)

pub returns-in-None-clause-told : goal.returns-in-None-clause-told
returns-in-None-clause-told c =
    linked_told c.args.self.now.content c.args.i false
    (ap is_linked c.in-None.ensures ∙ ap (λ (m : MonitorValue). is_linked (watch_at c.args.i m.content.watches)) c.self.view_is)
