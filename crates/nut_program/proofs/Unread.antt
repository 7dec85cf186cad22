-- A file that wasn't read has no fault in a line.
use Rattle.std.proofs.Common.{◌≡◌, ◌≢◌, ap}
use Rattle.std.specs.Prelude.{Result, Ok, Err}
use Rattle.nut_program.specs.declared.conf_file.FileFault.{FileFault}

abbrev why_of : {C : Type 0} → FileFault → Result C FileFault → FileFault
why_of other (Ok conf) = other
why_of other (Err why) = why

pub no_line : {C X : Type 0} (why fault : FileFault) → why ≢ fault → ◌≡◌ {A = Result C FileFault} (Err why) (Err fault) → X
no_line why fault no_fault same = absurd (no_fault (ap (why_of why) same))
