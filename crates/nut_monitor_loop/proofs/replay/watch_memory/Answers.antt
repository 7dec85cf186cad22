use Rattle.nut_monitor_loop.proofs.Replayed.{all_watched}
use Rattle.nut_monitor_loop.proofs.replay.watch_memory.Goals as goal

pub returns-clause-all : goal.returns-clause-all
returns-clause-all g c = all_watched c.watch.result _ _ _ _ c.requires.blank c.watch.ensures.ok c.watch.ensures.told c.watch.ensures.ended
