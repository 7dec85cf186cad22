-- What was read of configuration files, and what came of it.
use Rattle.std.specs.Prelude.{◌≡◌, ℕ, List, ◌∷◌, Option, Some, option_map, Result, Ok}
use Rattle.nut_conf.specs.Files.{Means}
use Rattle.nut_conf.specs.Values.{Words}
use Rattle.nut_conf.specs.declared.fault.FaultKind.{FaultKind}

-- the files that were read, the newest first, after one more: its path, and its bytes, or None if there is no such file
abbrev pub telling : List ℕ → Option (List ℕ) → Option (List (List ℕ × Option (List ℕ))) → Option (List (List ℕ × Option (List ℕ)))
telling path bytes told = option_map (λ files. (path, bytes) ∷ files) told

-- The file with this path was read, and no other, and this is the configuration that its bytes mean.
abbrev pub WasRead : {C : Type 0} → (List ℕ → Result (List Words) (ℕ × FaultKind)) → (C → List Words → Type 0) → List ℕ
    → Option (List (List ℕ × Option (List ℕ))) → C → Option (List (List ℕ × Option (List ℕ))) → Type 0
WasRead reading Holds path before c after = (file : List ℕ) × (after ≡ telling path (Some file) before) × Means (reading file) Holds (Ok c)
