use Rattle.nut_proto.proofs.PlainMeans.{begins_with}
use Rattle.nut_proto.proofs.plain.behind.Goals as goal

pub returns : goal.returns
returns c = begins_with c.args.piece.now c.args.words.now c.strip_prefix.result c.strip_prefix.ensures.cases
