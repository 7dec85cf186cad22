use Rattle.nut_server_spec.proofs.OnePiece.{waits-for-one-piece}
use Rattle.nut_server_spec.proofs.waits_for_one_piece.Goals as goal

pub returns : goal.returns
returns c = waits-for-one-piece
