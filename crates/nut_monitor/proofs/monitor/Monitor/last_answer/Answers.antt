use Rattle.std.proofs.Common.{ap, ◌∙◌}
use Rattle.std.specs.Option.{option_map}
use Rattle.nut_monitor_spec.specs.Acceptance.{answer_on, watch_at}
use Rattle.nut_monitor.specs.Monitors.{MonitorValue}
use Rattle.nut_monitor.proofs.Arrives.{answer_told}
use Rattle.nut_monitor.proofs.monitor.Monitor.last_answer.Goals as goal

pub returns-clause-told : goal.returns-clause-told
returns-clause-told c =
    answer_told c.args.self.now.content c.args.i (option_map (λ a. a.now) c.last_answer.result)
    (c.last_answer.ensures ∙ ap answer_on c.in_ok-watch.ensures ∙ ap (λ (m : MonitorValue). answer_on (watch_at c.args.i m.content.watches)) c.self.view_is)
