use Rattle.nut_server_loop.proofs.Rounds.{answers_are_offered}
use Rattle.nut_server_loop.proofs.laws.answers_are_offered.Goals as goal

pub returns : goal.returns
returns c = answers_are_offered
