use Rattle.std.proofs.Common.{sym, ap, ◌∙◌, arith, length, length-drop}
use Rattle.nut_poll.proofs.QueueLemmas.{is_below, popped}
use Rattle.nut_poll.proofs.ready.Ready.take.Goals as goal

pub bounds-self-inside-n : goal.bounds-self-inside-n
bounds-self-inside-n c =
    omega (arith, c.self.told, is_below c.self.inside.is_queued c.self.inside.queue.items c.in_ok-n.n c.self.invariant.3 (sym c.in_ok-n.ensures.value))

pub invariant_of-self-2 : goal.invariant_of-self-2
invariant_of-self-2 c =
    let items = c.self.inside.queue.items in
    let inv = c.self.invariant in
    let rest = popped c.self.inside.is_queued items c.in_ok-n.n c.pop_front.new.self c.self.inside.queue.capacity
    c.in_ok-n.ensures.items (sym c.in_ok-n.ensures.value) inv.2 inv.3 in (
      ap (λ b. b.capacity) c.in_ok-n.ensures.items ∙ inv.0,
      omega (arith, ap (λ b. length b.items) c.in_ok-n.ensures.items, length-drop 1 items, inv.1),
      rest.0,
      rest.1,
    )

pub returns-clause-once : goal.returns-clause-once
returns-clause-once c =
    (popped c.self.inside.is_queued c.self.inside.queue.items c.in_ok-n.n c.pop_front.new.self c.self.inside.queue.capacity
    c.in_ok-n.ensures.items (sym c.in_ok-n.ensures.value) c.self.invariant.2 c.self.invariant.3).2
