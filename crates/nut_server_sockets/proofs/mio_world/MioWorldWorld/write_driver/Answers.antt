use Rattle.nut_server_sockets.proofs.LateLemmas.{driver_noted}
use Rattle.nut_server_sockets.proofs.mio_world.MioWorldWorld.write_driver.Goals as goal

pub returns-clause-late : goal.returns-clause-late
returns-clause-late g c = driver_noted _ _ _ _ _ c.note_written.ensures.late
