use Rattle.std.proofs.Common.{refl}
use Rattle.std.specs.Fmt.{digits}
use Rattle.nut_proto.specs.Lines.{line}
use Rattle.nut_dummy.specs.Telling.{text}
use Rattle.nut_dummy.proofs.writable.Writable.limits.Goals as goal

pub returns-in-ChargeLow : goal.returns-in-ChargeLow
unfolding digits text line
returns-in-ChargeLow c = rw c.in-ChargeLow.is refl

pub returns-in-RuntimeLow : goal.returns-in-RuntimeLow
unfolding digits text line
returns-in-RuntimeLow c = rw c.in-RuntimeLow.is refl

pub returns-in-Sensitivity : goal.returns-in-Sensitivity
unfolding digits text line
returns-in-Sensitivity c = rw c.in-Sensitivity.is refl

pub returns-in-ShutdownDelay : goal.returns-in-ShutdownDelay
unfolding digits text line
returns-in-ShutdownDelay c = rw c.in-ShutdownDelay.is refl

pub returns-in-Id : goal.returns-in-Id
unfolding digits text line
returns-in-Id c = rw c.in-Id.is refl
