use Rattle.nut_monitor_loop.proofs.Noted.{gave_leads}
use Rattle.nut_monitor_loop.proofs.memory.MemoryMonWorldMonWorld.next.Goals as goal

pub returns-in-Ok-clause-ok : goal.returns-in-Ok-clause-ok
returns-in-Ok-clause-ok c = rw (← c.self.view_is) (gave_leads _ _ c.in-Ok.next c.give.new.piece.items c.in-Ok.ensures.noted c.in-Ok.ensures.given)
