use Rattle.nut_server_spec.proofs.Rights.{nothing-without-the-right}
use Rattle.nut_server_spec.proofs.nothing_without_the_right.Goals as goal

pub returns : goal.returns
returns c = nothing-without-the-right
