use Rattle.nut_client.proofs.Endings.{all_bytes}
use Rattle.nut_client.proofs.laws.all_bytes_decide.Goals as goal

pub returns : goal.returns
returns c = all_bytes
