-- For private functions, nothing here has to be believed: tables of entries with names.
use Rattle.std.specs.Prelude.{◌≡◌, ℕ, ◌<◌, ◌≤◌, Bool, true, false, Result, Ok, Err}
use Rattle.std.specs.Str.{bytes_eq}
use Rattle.nut_conf.specs.declared.text.Name.{Name}
use Rattle.nut_conf.specs.declared.fault.FaultKind.{FaultKind}
use Rattle.nut_conf.specs.declared.fault.FaultKind.TheVariants as kinds

-- whether both names have the same bytes
abbrev pub same_name : {most : ℕ} → Name most → Name most → Bool
same_name a b = bytes_eq a.bytes.items b.bytes.items

-- The fault that a table of n entries gives: it has the name, or it doesn't and has no room for another entry.
abbrev pub Forbids : Bool → ℕ → ℕ → FaultKind → Type 0
Forbids there n most kinds.Repeated = there ≡ true
Forbids there n most kinds.PastLimit = (there ≡ false) × (most ≤ n)
Forbids there n most _ = ⊥

-- A table of n entries doesn't have the name and has room for another entry, or the fault says why there can't be one.
abbrev pub Admits : Bool → ℕ → ℕ → Result (Unit {0}) FaultKind → Type 0
Admits there n most (Ok _) = (there ≡ false) × (n < most)
Admits there n most (Err e) = Forbids there n most e
