use Rattle.nut_server_spec.proofs.Kept.{keeps-content}
use Rattle.nut_server_spec.proofs.machine_keeps_content.Goals as goal

pub returns : goal.returns
returns c = keeps-content
