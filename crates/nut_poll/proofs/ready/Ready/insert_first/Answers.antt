use Rattle.std.proofs.Common.{[], sym, subst}
use Rattle.nut_poll.specs.Queue.{Looks}
use Rattle.nut_poll.proofs.QueueLemmas.{first_join}
use Rattle.nut_poll.proofs.ready.Ready.insert_first.Goals as goal

pub returns-clause-comes : goal.returns-clause-comes
returns-clause-comes c = subst (Looks [] c.args.self.now) (sym c.loop-n.invariant) (first_join c.loop-n.n c.args.self.now)
