-- What a write may take, and who is late after it.
use Rattle.std.specs.Prelude.{◌<◌, ◌≤◌, ℕ, Bool, ◌||◌, ◌==◌, List, take, Option}
use Rattle.std.specs.Io.KnownBytes.{Appends, Keeps}
use Rattle.nut_io.specs.declared.types.Written.{Written}
use Rattle.nut_io.specs.declared.types.Written.TheVariants.{Took, Later, Failed}

-- A write that takes bytes takes at least one, and no more than were offered.
abbrev pub IsWithin : Written → ℕ → Type 0
IsWithin (Took n) offered = (0 < n) × (n ≤ offered)
IsWithin Later offered = Unit {0}
IsWithin Failed offered = Unit {0}

-- The writer took the bytes that the outcome says, from the front of those that were offered, and no others.
abbrev pub Takes : Written → List ℕ → Option (List ℕ) → Option (List ℕ) → Type 0
Takes (Took n) offered before after = Appends before after (take n offered)
Takes Later offered before after = Keeps before after
Takes Failed offered before after = Keeps before after

-- whether d is late after a write to c: it was late before, or it is c and the write is to come later; used of
-- connections, drivers and links
abbrev pub late_after : Written → ℕ → (ℕ → Bool) → ℕ → Bool
late_after (Took n) c late d = late d
late_after Later c late d = late d || (d == c)
late_after Failed c late d = late d
