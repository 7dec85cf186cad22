use Rattle.nut_poll.proofs.QueueLemmas.{heeds_reported}
use Rattle.nut_poll.proofs.rounds.Rounds.wait_for.Goals as goal

pub returns-clause-heeds : goal.returns-clause-heeds
returns-clause-heeds c =
    let start = c.args.self.now in
    heeds_reported start (record start { poll = c.poll-result.new.self; events = c.poll-result.new.events; ready = c.insert_all.new.self })
    c.insert_all.ensures
