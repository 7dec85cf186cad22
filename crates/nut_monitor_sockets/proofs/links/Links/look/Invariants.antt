use Rattle.std.proofs.Common.{ℕ, List}
use Rattle.nut_poll.specs.Turns.{Heeds}
use Rattle.nut_monitor_sockets.specs.Turns.{WaitsUnread}
use Rattle.nut_monitor_sockets.proofs.links.Links.look.Given as goal

abbrev pub invariant-loop : goal.invariant-loop
invariant-loop g l = ((looked : List ℕ) × Heeds looked l.fn.self.rounds l.self.rounds)
    × (((i : ℕ) → WaitsUnread i l.fn.self) → (i : ℕ) → WaitsUnread i l.self)
