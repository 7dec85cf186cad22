use Rattle.nut_server_spec.proofs.AnswerBounds.{answers-bounded}
use Rattle.nut_server_spec.proofs.answers_are_bounded.Goals as goal

pub returns : goal.returns
returns c = answers-bounded c.every_table_holds.ensures
