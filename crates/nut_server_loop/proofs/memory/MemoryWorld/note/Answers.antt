use Rattle.std.proofs.Common.{Some, refl, ap}
use Rattle.nut_server_loop.specs.Memory.{entry_of, log_of}
use Rattle.nut_server_loop.proofs.Noted.{goes_on_more}
use Rattle.nut_server_loop.proofs.memory.MemoryWorld.note.Goals as goal

pub returns-in-Ok-clause-step : goal.returns-in-Ok-clause-step
returns-in-Ok-clause-step c =
    rw (← c.self.view_is) (record {
      ok = ap Some c.in-Ok.ensures.ok;
      err = tt;
      counted = refl;
      reached = goes_on_more (record { left = c.self.inside.left.items; log = log_of c.self.inside.notes.items; faults = c.self.inside.faults })
          (record { left = c.self.inside.left.items; log = log_of c.note.new.notes.items; faults = c.self.inside.faults }) (entry_of c.args.one) c.requires.silent c.in-Ok.ensures.ok refl;
    })
