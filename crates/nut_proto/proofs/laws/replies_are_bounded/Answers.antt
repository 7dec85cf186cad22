use Rattle.nut_proto.proofs.Lengths.{rows_are_bounded, lists_are_bounded, forced_lists_are_bounded}
use Rattle.nut_proto.proofs.laws.replies_are_bounded.Goals as goal

pub returns : goal.returns
returns c = record { rows = rows_are_bounded; lists = lists_are_bounded; forced = forced_lists_are_bounded }
