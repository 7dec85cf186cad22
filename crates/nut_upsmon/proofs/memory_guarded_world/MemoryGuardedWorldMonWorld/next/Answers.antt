use Rattle.nut_upsmon.proofs.memory_guarded_world.MemoryGuardedWorldMonWorld.next.Goals as goal

pub returns-then-second-clause-ended : goal.returns-then-second-clause-ended
returns-then-second-clause-ended c = λ _. c.second.ensures.end c.if-second.true
