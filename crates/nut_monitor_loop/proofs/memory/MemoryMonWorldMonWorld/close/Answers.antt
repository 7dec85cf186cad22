use Rattle.std.proofs.Common.{refl}
use Rattle.nut_monitor_loop.specs.Record.{WasClosed}
use Rattle.nut_monitor_loop.specs.Memory.{log_of}
use Rattle.nut_monitor_loop.proofs.Noted.{goes_on_more}
use Rattle.nut_monitor_loop.proofs.memory.MemoryMonWorldMonWorld.close.Goals as goal

pub returns-in-Ok-clause-ok : goal.returns-in-Ok-clause-ok
returns-in-Ok-clause-ok c =
    rw (← c.self.view_is) (goes_on_more (record { left = c.self.inside.left.items; log = log_of c.self.inside.notes.items; faults = c.self.inside.faults })
    (record { left = c.self.inside.left.items; log = log_of c.note.new.notes.items; faults = c.self.inside.faults }) (WasClosed c.args.i) refl c.in-Ok.ensures.ok refl)
