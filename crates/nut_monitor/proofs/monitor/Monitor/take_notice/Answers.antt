use Rattle.std.proofs.Common.{ap}
use Rattle.nut_monitor_spec.specs.Configuration.{configuration_of}
use Rattle.nut_monitor.specs.inside.Steps.{content_in}
use Rattle.nut_monitor.proofs.Arrives.{stands_taken}
use Rattle.nut_monitor.proofs.monitor.Monitor.take_notice.Goals as goal

pub returns-clause-stands : goal.returns-clause-stands
returns-clause-stands c =
    stands_taken (content_in (configuration_of c.self.inside.config) c.self.inside.state) c.args.self.now.content c.take.new.self c.take.result
    (ap (λ m. m.content) c.self.view_is) c.take.ensures.taken c.take.ensures.left
