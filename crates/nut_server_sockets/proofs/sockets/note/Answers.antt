use Rattle.nut_server_sockets.proofs.HeedLemmas.{noted_more}
use Rattle.nut_server_sockets.proofs.sockets.note.Goals as goal

pub loop-event-preserved : goal.loop-event-preserved
loop-event-preserved c =
    noted_more c.loop-event.yielded c.in-Some.event c.args.clients.now.sockets c.loop-event.clients.sockets c.note_one.new.clients.sockets
    c.loop-event.invariant c.note_one.ensures
