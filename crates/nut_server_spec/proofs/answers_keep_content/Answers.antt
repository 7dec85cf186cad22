use Rattle.nut_server_spec.proofs.Tells.{answers-told, tells-after}
use Rattle.nut_server_spec.proofs.answers_keep_content.Goals as goal

pub returns : goal.returns
returns c = λ first h s e r told is. (answers-told first h s e r told is, tells-after first h s e r told is)
