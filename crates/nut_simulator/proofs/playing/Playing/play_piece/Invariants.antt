use Rattle.std.proofs.Common.{length}
use Rattle.nut_simulator.proofs.playing.Playing.play_piece.Given as goal

abbrev pub decreases-loop-left : goal.decreases-loop-left
decreases-loop-left g l = length l.left
