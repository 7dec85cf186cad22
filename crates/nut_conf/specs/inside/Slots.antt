-- For private functions, nothing here has to be believed: what one line sets, and lists that have a limit.
use Rattle.std.specs.Prelude.{◌≡◌, ℕ, List, [], ◌∷◌, ◌++◌, length, if◌then◌else◌, Option, Result, Ok, Err}
use Rattle.nut_conf.specs.Faults.{◌>>=◌, Refuses}
use Rattle.nut_conf.specs.Values.{Words, values_of}
use Rattle.nut_conf.specs.Settings.{Setting, is_full}
use Rattle.nut_conf.specs.declared.values.Form.{Form}
use Rattle.nut_conf.specs.declared.fault.FaultKind.{FaultKind}
use Rattle.nut_conf.specs.declared.fault.FaultKind.TheVariants.{PastLimit}

-- what a line of this form sets, or its first fault
abbrev pub set_by_line : Form → (Words → Result Setting FaultKind) → Words → Result Setting FaultKind
set_by_line form reads ws = values_of form ws >>= reads

-- the list with x at the end, or `PastLimit` if it has no room for another
abbrev pub pushed : {X : Type 0} → Option ℕ → List X → X → Result (List X) FaultKind
pushed most xs x = if is_full most (length xs) then Err PastLimit else Ok (xs ++ x ∷ [])

-- The call added x to the list, or returned the fault that forbids it; or memory could not be allocated.
abbrev pub Pushes : {X : Type 0} → Option ℕ → List X → X → Result (Unit {0}) FaultKind → List X → Type 0
Pushes most old x (Ok _) new = pushed most old x ≡ Ok new
Pushes most old x (Err e) new = Refuses e (pushed most old x)
