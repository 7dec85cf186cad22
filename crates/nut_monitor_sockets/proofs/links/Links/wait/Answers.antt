use Rattle.std.proofs.Common.{[], refl, sym, subst}
use Rattle.nut_poll.specs.Turns.{Heeds}
use Rattle.nut_monitor_sockets.proofs.InTurn.{began, comes_on, still}
use Rattle.nut_monitor_sockets.proofs.links.Links.wait.Goals.{then-is_empty+in_ok-look_at_clock-2, else-is_empty}
use Rattle.nut_monitor_sockets.proofs.links.Links.wait.Goals as goal

pub returns : goal.returns
returns g c =
    let start = c.args.self.now.rounds in
    let looked = c.look_at_clock.new.self.rounds in
    let waited = c.wait_for.new.self in
    let again = c.if-is_empty.self.rounds in
    let found = c.take_look_up.new.self.rounds in
    let more : Heeds [] waited again =
    elim c.if-is_empty.branch [
      | then-is_empty+in_ok-look_at_clock-2 w ↦
          subst (λ s. Heeds [] waited s.rounds) (sym w.self-is) w.look_at_clock-then-is_empty.ensures
      | else-is_empty w ↦ subst (λ s. Heeds [] waited s.rounds) (sym w.self-is) (still waited waited refl)
    ]
    in
    comes_on start looked c.begin.new.self c.look_at_clock.ensures (comes_on looked waited c.begin.new.self c.wait_for.ensures.heeds
    (comes_on waited again c.begin.new.self more (comes_on again found c.begin.new.self c.take_look_up.ensures
    (began found c.begin.new.self c.begin.ensures.ready c.begin.ensures.rest.0))))
