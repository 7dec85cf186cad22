use Rattle.std.proofs.Common.{[]}
use Rattle.nut_poll.proofs.QueueLemmas.{first_may_join}
use Rattle.nut_poll.specs.inside.TurnLaws.{heeds_as_before}
use Rattle.nut_poll.proofs.rounds.Rounds.look_at_clock.Goals as goal

pub returns-clause-heeds : goal.returns-clause-heeds
returns-clause-heeds g c =
    let start = c.args.self.now in
    heeds_as_before [] start c.look_at.new.self
    (first_may_join c.look_at.result start.fixed start.ready c.look_at.new.self.ready c.look_at.ensures.ready) c.look_at.ensures.rest.0
