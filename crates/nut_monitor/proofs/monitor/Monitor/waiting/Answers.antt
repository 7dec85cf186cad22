use Rattle.std.proofs.Common.{[], ap, ◌∙◌}
use Rattle.nut_monitor_spec.specs.Acceptance.{waiting_on, watch_at}
use Rattle.nut_monitor.specs.Monitors.{MonitorValue}
use Rattle.nut_monitor.proofs.Arrives.{waiting_told}
use Rattle.nut_monitor.proofs.monitor.Monitor.waiting.Goals as goal

pub returns-in-Some-clause-told : goal.returns-in-Some-clause-told
returns-in-Some-clause-told c =
    waiting_told c.args.self.now.content c.args.i c.waiting.result.now
    (c.waiting.ensures ∙ ap waiting_on c.in-Some.ensures ∙ ap (λ (m : MonitorValue). waiting_on (watch_at c.args.i m.content.watches)) c.self.view_is)

pub returns-in-None-clause-told : goal.returns-in-None-clause-told
returns-in-None-clause-told c =
    waiting_told c.args.self.now.content c.args.i []
    (ap waiting_on c.in-None.ensures ∙ ap (λ (m : MonitorValue). waiting_on (watch_at c.args.i m.content.watches)) c.self.view_is)
