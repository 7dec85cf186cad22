-- For private functions, nothing here has to be believed: faults with a hint, of which no clause speaks.
use Rattle.std.specs.Prelude.{Result, Ok, Err}
use Rattle.nut_conf.specs.declared.fault.FaultKind.{FaultKind}
use Rattle.nut_conf.specs.declared.fault.Misread.{Misread}

-- the result of a call, with the kind alone of its fault
abbrev pub bare : {X : Type 0} → Result X Misread → Result X FaultKind
bare (Ok x) = Ok x
bare (Err m) = Err m.kind
