use Rattle.std.proofs.Common.{ap, ◌∙◌}
use Rattle.mio.specs.Event.{event_token}
use Rattle.nut_poll.specs.Queue.{joined}
use Rattle.nut_poll.proofs.QueueLemmas.{one_more_reported}
use Rattle.nut_poll.proofs.ready.Ready.insert_all.Goals as goal

pub loop-event-preserved : goal.loop-event-preserved
loop-event-preserved c =
    c.insert.ensures.joined
    ∙ ap (λ t. joined t.0 c.loop-event.self) c.token.ensures
    ∙ ap (joined (event_token c.in-Some.event.now).0) c.loop-event.invariant
    ∙ one_more_reported c.loop-event.yielded c.in-Some.event c.args.self.now
