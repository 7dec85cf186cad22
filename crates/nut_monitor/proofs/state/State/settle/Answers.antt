use Rattle.std.proofs.Common.{sym, subst}
use Rattle.nut_monitor_spec.specs.Configuration.{configuration_of}
use Rattle.nut_monitor.specs.inside.Inside.{IsOrderly}
use Rattle.nut_monitor.specs.inside.Steps.{content_in}
use Rattle.nut_monitor.proofs.Bounded.{lines_writable}
use Rattle.nut_monitor.proofs.Steps.{asked_orderly}
use Rattle.nut_monitor.proofs.state.State.settle.Goals as goal

pub returns-clause-orderly : goal.returns-clause-orderly
returns-clause-orderly c =
    let s = content_in (configuration_of c.args.config.now) c.move_phase.new.self in
    let orderly = c.move_phase.ensures.orderly (c.judge_shutdown.ensures.orderly c.requires) in
    subst (λ ws. IsOrderly (record s { watches = ws })) (sym c.ask_all.ensures) (asked_orderly s c.phase-phase.result (lines_writable c.args.config.now.monitors.lines.items) orderly)
