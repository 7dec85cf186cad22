use Rattle.nut_server_spec.proofs.Renumbered.{numbers-distinct}
use Rattle.nut_server_spec.proofs.numbers_are_distinct.Goals as goal

pub returns : goal.returns
returns c = numbers-distinct
