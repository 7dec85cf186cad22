use Rattle.nut_server_spec.proofs.Recut.{same-steps}
use Rattle.nut_server_spec.proofs.same_steps_same_answers.Goals as goal

pub returns : goal.returns
returns c = same-steps
