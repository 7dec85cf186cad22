use Rattle.nut_server_spec.proofs.Numbers.{numbers-rise}
use Rattle.nut_server_spec.proofs.numbers_rise.Goals as goal

pub returns : goal.returns
returns c = numbers-rise
