use Rattle.nut_proto.proofs.Readable.{read_requests_are_readable}
use Rattle.nut_proto.proofs.laws.read_requests_are_readable.Goals as goal

pub returns : goal.returns
returns c = read_requests_are_readable
