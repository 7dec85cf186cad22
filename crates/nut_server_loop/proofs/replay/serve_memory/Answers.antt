use Rattle.std.proofs.Common.{arith}
use Rattle.std.proofs.lemmas.Grind.{common_steps}
use Rattle.nut_server_loop.proofs.replay.serve_memory.Goals as goal

pub returns-clause-all : goal.returns-clause-all
returns-clause-all g c = grind (arith, common_steps)
