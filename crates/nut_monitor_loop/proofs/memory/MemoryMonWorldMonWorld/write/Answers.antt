use Rattle.std.proofs.Common.{List, [], ◌∷◌, length, refl, sym, subst, arith}
use Rattle.std.proofs.lemmas.List.{take_all}
use Rattle.nut_monitor_loop.specs.Record.{TookBytes}
use Rattle.nut_monitor_loop.specs.Memory.{MemoryState, GoesOn, log_of}
use Rattle.nut_monitor_loop.proofs.Noted.{goes_on_more}
use Rattle.nut_monitor_loop.proofs.memory.MemoryMonWorldMonWorld.write.Goals as goal

pub returns-in-Ok-clause-ok : goal.returns-in-Ok-clause-ok
returns-in-Ok-clause-ok c =
    let old : MemoryState = record { left = c.self.inside.left.items; log = log_of c.self.inside.notes.items; faults = c.self.inside.faults } in
    let new : MemoryState = record { left = c.self.inside.left.items; log = log_of c.note_taken.new.notes.items; faults = c.self.inside.faults } in
    let bytes : List _ = c.args.bytes.now in
    rw (← c.self.view_is) (subst (λ b. GoesOn old new (TookBytes c.args.i b ∷ [])) (sym (take_all (length bytes) bytes (omega arith)))
    (goes_on_more old new (TookBytes c.args.i bytes) refl c.in-Ok.ensures.ok refl))
