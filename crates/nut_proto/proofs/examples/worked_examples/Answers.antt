-- The lines that hold a number.
use Rattle.std.proofs.Common.{refl}
use Rattle.std.specs.Fmt.{digits}
use Rattle.nut_proto.specs.DriverAsks.{ask_line}
use Rattle.nut_proto.specs.Lines.{line}
use Rattle.nut_proto.specs.Replies.{reply_line}
use Rattle.nut_proto.proofs.examples.worked_examples.Goals as goal

pub returns-clause-kind : goal.returns-clause-kind
unfolding reply_line line digits
returns-clause-kind c = refl

pub returns-clause-numbered : goal.returns-clause-numbered
unfolding reply_line line digits
returns-clause-numbered c = refl

pub returns-clause-ended : goal.returns-clause-ended
unfolding reply_line line digits
returns-clause-ended c = refl

pub returns-clause-asked_as : goal.returns-clause-asked_as
unfolding ask_line line digits
returns-clause-asked_as c = refl
