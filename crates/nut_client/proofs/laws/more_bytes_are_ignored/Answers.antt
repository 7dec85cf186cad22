use Rattle.nut_client.proofs.Endings.{more_bytes}
use Rattle.nut_client.proofs.laws.more_bytes_are_ignored.Goals as goal

pub returns : goal.returns
returns c = more_bytes
