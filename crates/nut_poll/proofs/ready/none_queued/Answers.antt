use Rattle.nut_poll.proofs.QueueLemmas.{no_flags}
use Rattle.nut_poll.proofs.ready.none_queued.Goals as goal

pub returns : goal.returns
returns c = no_flags 512
