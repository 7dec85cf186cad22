use Rattle.std.proofs.Common.{ap, ◌∙◌, sym}
use Rattle.nut_server_loop.specs.Memory.{first_coming, log_of}
use Rattle.nut_server_loop.proofs.Noted.{came, gave_reached, leads_both}
use Rattle.nut_server_loop.proofs.memory.MemoryWorldWorld.next.Goals as goal

pub returns-in-Ok-clause-read : goal.returns-in-Ok-clause-read
returns-in-Ok-clause-read c =
    came c.args.server.now c.self.inside.left.items c.give.new.left.items c.in-Some.i c.in-Ok.next c.give.new.piece.items
    (ap (λ left. first_coming c.args.server.now left) (sym c.deref.ensures.value) ∙ sym c.in-Some.ensures.place)
    c.in-Ok.ensures.given

pub returns-in-Ok-clause-awaits : goal.returns-in-Ok-clause-awaits
returns-in-Ok-clause-awaits c =
    rw (← c.self.view_is) (leads_both _ _ (gave_reached (record { left = c.self.inside.left.items; log = log_of c.self.inside.notes.items; faults = c.self.inside.faults })
    (record { left = c.give.new.left.items; log = log_of c.give.new.notes.items; faults = c.self.inside.faults }) c.in-Some.i c.in-Ok.next c.give.new.piece.items
    c.in-Ok.ensures.given c.in-Ok.ensures.noted))
