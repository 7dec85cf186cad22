use Rattle.std.proofs.Common.{◌≡◌, ◌≤◌, length, ◌∙◌, ap, sym, subst, arith}
use Rattle.nut_monitor_spec.specs.Acceptance.{waits_on, watch_at}
use Rattle.nut_monitor_spec.specs.Content.{Watch}
use Rattle.nut_monitor_spec.specs.machine.Machine.{took}
use Rattle.nut_monitor.specs.inside.Inside.{to_lose}
use Rattle.nut_monitor.specs.Bounds.{IsLinkBounded}
use Rattle.nut_monitor.specs.inside.Steps.{content_in}
use Rattle.nut_monitor.proofs.Bounded.{at_bounded, took_bounded}
use Rattle.nut_monitor.proofs.Steps.{here, set_orderly, set_update, some_same, took_accepted}
use Rattle.nut_monitor.proofs.state.State.link_took.Goals as goal

pub returns : goal.returns
returns c =
    record {
      step = λ configuration orderly.
          let s = content_in configuration c.args.self.now in
          let i = c.args.i in
          let w = c.index_mut.result.now in
          let checked = c.in_ok-check.ensures {u = tt} in
          let is = c.index_mut.ensures.value in
          let at = here i s.watches w checked.0 is in
          let same : c.index.result.now ≡ w = some_same (sym (here i s.watches c.index.result.now checked.0 c.index.ensures) ∙ at) in
          let le : c.args.n ≤ length (waits_on w.link) = omega (arith, c.if-n-waiting.false, ap length c.waiting.ensures, ap (λ x. length (waits_on x.link)) same) in
          record {
            answered = (took_accepted c.args.n (watch_at i s.watches) w at checked.1 le, tt);
            content = ap (λ ws. record s { watches = ws }) (set_update (took c.args.n) i s.watches w c.took.new.self checked.0 is c.took.ensures);
            orderly = set_orderly s i w c.took.new.self checked.0 is (ap to_lose c.took.ensures)
                (subst (λ (x : Watch). IsLinkBounded x.link) (sym c.took.ensures) (took_bounded c.args.n w (at_bounded s.watches i w checked.0 is orderly.links))) orderly;
          };
    }
