use Rattle.nut_server_loop.proofs.Settles.{only_twice}
use Rattle.nut_server_loop.proofs.settling.flush.Goals as goal

pub returns-clause-only : goal.returns-clause-only
returns-clause-only g c = only_twice _ _ _ _ _ _ _ c.loop.invariant.only c.in_ok-write_once.ensures.only
