-- What files in memory tell.
use Rattle.std.specs.Prelude.{ℕ, List, Option, option_map, Vec, String, string_bytes}

-- the path of a file that was read, and its bytes if there was such a file
abbrev pub told_of : {A B : Type 0} → String A × Option (Vec ℕ B) → List ℕ × Option (List ℕ)
told_of file = (string_bytes file.0, option_map (λ v. v.items) file.1)
