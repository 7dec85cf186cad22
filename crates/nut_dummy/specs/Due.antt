-- Which values of a variable are due, and the latest of them. Times are whole seconds since the start.
use Rattle.std.specs.Prelude.{ℕ, zero, suc, ◌+◌, ◌*◌, ◌==◌, ◌&&◌, Bool, List, [], ◌∷◌, Option, Some, None, if◌then◌else◌, nat_lt, nat_le}
use Rattle.std.specs.Option.{option_or}
use Rattle.nut_dummy.specs.Script.{Step}

-- A value is due once in each round, `step.at` seconds after the round's beginning. Rounds count from 0.
abbrev pub due_at : ℕ → ℕ → Step → ℕ
due_at round k step = step.at + k * round

-- whether it is due in round k, later than `after` and not later than `until`
abbrev pub is_due : ℕ → ℕ → ℕ → ℕ → Step → Bool
is_due round after until k step = nat_lt after (due_at round k step) && nat_le (due_at round k step) until

-- the last value that passes the test, in the order of the lines
abbrev pub newest : (Step → Bool) → List Step → Option (List ℕ)
newest test [] = None
newest test (step ∷ steps) = option_or (newest test steps) (if test step then Some step.value else None)

-- The value that was due last in rounds 0 to k: that of the latest round in which one was due. A round begins only once
-- all values of the round before are due.
abbrev pub newest_up_to : ℕ → ℕ → ℕ → List Step → ℕ → Option (List ℕ)
newest_up_to round after until steps zero = newest (is_due round after until 0) steps
newest_up_to round after until steps (suc k) =
    option_or (newest (is_due round after until (suc k)) steps) (newest_up_to round after until steps k)

-- The value that was due last, later than `after` and not later than `until`. A round with timers takes at least a
-- second, so no round after number `until` counts. Without timers all values are due at the start.
unfoldable pub latest : ℕ → ℕ → ℕ → List Step → Option (List ℕ)
latest round after until steps = if round == 0 then None else newest_up_to round after until steps until

-- The value that a variable has at the start: the last one that is due at 0 seconds.
abbrev pub at_start : List Step → Option (List ℕ)
at_start steps = newest (λ step. step.at == 0) steps
