use Rattle.nut_poll.proofs.QueueLemmas.{first_may_join_round}
use Rattle.nut_poll.proofs.rounds.Rounds.turn_at.Goals as goal

pub returns-then-is_over-clause-comes : goal.returns-then-is_over-clause-comes
returns-then-is_over-clause-comes c =
    let start = c.args.self.now in
    first_may_join_round c.look_at-is_over.result start.fixed start.ready c.look_at-is_over.new.self.ready c.begin.new.self.ready
    c.look_at-is_over.ensures.ready c.begin.ensures.ready
