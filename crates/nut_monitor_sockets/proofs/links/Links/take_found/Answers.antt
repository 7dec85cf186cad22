use Rattle.std.proofs.Common.{[], refl, sym, subst}
use Rattle.nut_poll.specs.Turns.{Heeds}
use Rattle.nut_monitor_sockets.proofs.InTurn.{comes, comes_on}
use Rattle.nut_monitor_sockets.proofs.links.Links.take_found.Goals.{then-eq+then-not-take_addresses, then-eq+else-not-take_addresses, else-eq}
use Rattle.nut_monitor_sockets.proofs.links.Links.take_found.Goals as goal

pub loop-i-preserved : goal.loop-i-preserved
loop-i-preserved c =
    let start = c.args.self.now.rounds in
    let before = c.loop-i.self.1.0 in
    elim c.if-eq.branch [
      | then-eq+then-not-take_addresses w ↦ subst (λ s. Heeds [] start s.1.0) (sym w.self-is)
          (let after = record before { ready = w.insert.new.self } in
          comes_on start before after c.loop-i.invariant (comes before after w.insert.ensures.comes refl))
      | then-eq+else-not-take_addresses w ↦ subst (λ s. Heeds [] start s.1.0) (sym w.self-is)
          (let after = record before { ready = w.insert.new.self } in
          comes_on start before after c.loop-i.invariant (comes before after w.insert.ensures.comes refl))
      | else-eq w ↦ subst (λ s. Heeds [] start s.1.0) (sym w.self-is) c.loop-i.invariant
    ]
