use Rattle.std.proofs.Common.{◌∙◌, ap}
use Rattle.nut_monitor_spec.specs.Acceptance.{watch_at}
use Rattle.nut_monitor_spec.specs.Configuration.{configuration_of}
use Rattle.nut_monitor_spec.specs.machine.Machine.{made, settled}
use Rattle.nut_monitor.specs.inside.Steps.{content_in}
use Rattle.nut_monitor.proofs.Steps.{here, linked_accepted, set_update}
use Rattle.nut_monitor.proofs.state.State.link.Goals as goal

pub returns : goal.returns
returns c =
    let s = content_in (configuration_of c.args.config.now) c.args.self.now in
    let i = c.args.i in
    let w = c.index_mut.result.now in
    let checked = c.in_ok-check.ensures {u = tt} in
    let is = c.index_mut.ensures.value in
    record {
      step = record {
        answered = (linked_accepted (watch_at i s.watches) w (here i s.watches w checked.0 is) checked.1, tt);
        content = c.settle.ensures.content ∙ ap (λ ws. settled (record s { watches = ws })) (set_update made i s.watches w c.link.new.self checked.0 is c.link.ensures);
        orderly = c.settle.ensures.orderly;
      };
    }
