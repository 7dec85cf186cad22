use Rattle.std.proofs.Common.{◌∙◌, ap, sym, subst, length, arith}
use Rattle.nut_monitor_spec.specs.Configuration.{configuration_of}
use Rattle.nut_monitor.specs.Bounds.{AreLinksBounded}
use Rattle.nut_monitor.specs.inside.Steps.{content_in}
use Rattle.nut_monitor.proofs.Bounded.{all_silent_bounded}
use Rattle.nut_monitor.proofs.Steps.{anew_orderly, length-all_silent}
use Rattle.nut_monitor.proofs.state.State.tick.Goals as goal

pub returns-clause-orderly : goal.returns-clause-orderly
returns-clause-orderly c =
    anew_orderly (content_in (configuration_of c.args.config.now) c.args.self.now) _ _ _ (ap length c.tell_silences.ensures.watches ∙ length-all_silent (configuration_of c.args.config.now) _ c.args.self.now.watches.items)
    (omega (arith, c.tell_silences.ensures.few, c.requires.free, c.requires.orderly.most))
    (subst AreLinksBounded (sym c.tell_silences.ensures.watches) (all_silent_bounded (configuration_of c.args.config.now) _ c.args.self.now.watches.items c.requires.orderly.links)) c.requires.orderly
