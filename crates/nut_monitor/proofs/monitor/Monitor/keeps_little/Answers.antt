use Rattle.std.proofs.Common.{subst}
use Rattle.nut_monitor_spec.specs.Configuration.{configuration_of}
use Rattle.nut_monitor.specs.Bounds.{KeepsLittle}
use Rattle.nut_monitor.specs.Monitors.{MonitorValue}
use Rattle.nut_monitor.specs.inside.Steps.{content_in}
use Rattle.nut_monitor.proofs.Arrives.{orderly_little}
use Rattle.nut_monitor.proofs.monitor.Monitor.keeps_little.Goals as goal

pub returns : goal.returns
returns c =
    subst (λ (m : MonitorValue). KeepsLittle m.content) c.self.view_is
    (orderly_little (content_in (configuration_of c.self.inside.config) c.self.inside.state) c.self.invariant)
