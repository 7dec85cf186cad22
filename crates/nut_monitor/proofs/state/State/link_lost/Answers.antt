use Rattle.std.proofs.Common.{◌++◌, [], ◌∙◌, ap}
use Rattle.std.specs.Prelude.{if◌then◌else◌}
use Rattle.nut_monitor_spec.specs.Acceptance.{watch_at}
use Rattle.nut_monitor_spec.specs.Configuration.{configuration_of}
use Rattle.nut_monitor_spec.specs.machine.Machine.{loss_told, settled}
use Rattle.nut_monitor.specs.inside.Steps.{content_in}
use Rattle.nut_monitor.proofs.Steps.{here, lost_accepted, lost_content}
use Rattle.nut_monitor.proofs.state.State.link_lost.Goals as goal

pub returns : goal.returns
returns c =
    let s = content_in (configuration_of c.args.config.now) c.args.self.now in
    let i = c.args.i in
    let w = c.index_mut.result.now in
    let checked = c.in_ok-check.ensures {u = tt} in
    let is = c.index_mut.ensures.value in
    let told = c.lose.ensures.told ∙ ap (λ scene. s.notices ++ (if scene.watching then loss_told scene.line w else [])) c.scene-scene.ensures in
    record {
      step = record {
        answered = (lost_accepted (watch_at i s.watches) w (here i s.watches w checked.0 is) checked.1, tt);
        content = c.settle.ensures.content ∙ ap settled (lost_content s i w c.lose.new.self c.lose.new.notices checked.0 is c.lose.ensures.line told);
        orderly = c.settle.ensures.orderly;
      };
    }
