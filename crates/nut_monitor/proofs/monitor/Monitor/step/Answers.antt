use Rattle.std.proofs.Common.{sym, ap, subst}
use Rattle.nut_monitor_spec.specs.Configuration.{configuration_of}
use Rattle.nut_monitor_spec.specs.Outcome.{IsAnswer}
use Rattle.nut_monitor.specs.Events.{event_of}
use Rattle.nut_monitor.specs.inside.Steps.{content_in}
use Rattle.nut_monitor.proofs.monitor.Monitor.step.Goals as goal

pub invariant_of-self-in-LinkTook : goal.invariant_of-self-in-LinkTook
invariant_of-self-in-LinkTook c = (c.link_took.ensures.step (configuration_of c.self.inside.config) c.self.invariant).orderly

pub returns-in-LinkTook-clause-answered : goal.returns-in-LinkTook-clause-answered
returns-in-LinkTook-clause-answered c =
    let step = c.link_took.ensures.step (configuration_of c.self.inside.config) c.self.invariant in
    let event = ap event_of c.in-LinkTook.is in
    subst (λ s. IsAnswer s (event_of c.args.event) c.link_took.result) (ap (λ m. m.content) c.self.view_is)
    (subst (λ e. IsAnswer (content_in (configuration_of c.self.inside.config) c.self.inside.state) e c.link_took.result) (sym event) step.answered)
