-- What the values of `--ups` are read as.
use Rattle.std.specs.Prelude.{ℕ, ◌+◌, ◌==◌, List, [], ◌∷◌, take, drop, position, Option, Some, None, Result, Ok, Err}
use Rattle.nut_words.specs.Bytes.{equals}
use Rattle.nut_conf.specs.Faults.{◌>>=◌}
use Rattle.nut_conf.specs.Ups.{Shown, with_ups}
use Rattle.nut_conf.specs.declared.fault.FaultKind.{FaultKind}
use Rattle.nut_conf.specs.declared.fault.FaultKind.TheVariants.{BadForm}

-- a value that is split at this place: the name is before it, the description behind it
abbrev pub parted : List Shown → List ℕ → Option ℕ → Result (List Shown) FaultKind
parted before value None = Err BadForm
parted before value (Some i) = with_ups before (take i value) (drop (i + 1) value)

-- the UPSes with that of a value appended, or the value's first fault; the value is split at its first `=`
abbrev pub ups_option : List Shown → List ℕ → Result (List Shown) FaultKind
ups_option before value = parted before value (position (λ b. b == equals) value)

-- the UPSes with those of values appended in turn, or the fault of the first value that has one
abbrev pub ups_options : List Shown → List (List ℕ) → Result (List Shown) FaultKind
ups_options before [] = Ok before
ups_options before (value ∷ values) = ups_option before value >>= (λ more. ups_options more values)
