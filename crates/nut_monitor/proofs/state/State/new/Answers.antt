use Rattle.std.proofs.Common.{◌∙◌, ap, ap₂, map, []}
use Rattle.nut_monitor_spec.specs.Configuration.{configuration_of}
use Rattle.nut_monitor_spec.specs.Content.{content}
use Rattle.nut_monitor.specs.inside.Inside.{unwatched}
use Rattle.nut_monitor.proofs.Begun.{begins}
use Rattle.nut_monitor.proofs.Steps.{all_unwatched}
use Rattle.nut_monitor.proofs.state.State.new.Goals as goal

pub returns-in-Ok : goal.returns-in-Ok
returns-in-Ok c =
    let configuration = configuration_of c.args.config.now in
    let start = content configuration [] in
    ap₂ (λ n ws. record start { notices = n; watches = ws }) (c.in-Ok.ensures {u = tt})
    (c.in_ok-watches.ensures {u = tt} ∙ ap (map (λ line. unwatched)) c.as_slice.ensures.value ∙ all_unwatched c.args.config.now.monitors.lines.items ∙ begins configuration)
