-- Machines whose links come back, after a switch or a server was started again.
use Rattle.std.specs.Prelude.{ℕ, ◌≡◌, ◌+◌, ◌*◌, max, Bool, true, List}
use Rattle.nut_monitor_spec.specs.Configuration.{Configuration}
use Rattle.nut_fleet.specs.Schedule.{Step, IsFront}
use Rattle.nut_fleet.specs.World.{Setup, line_of, monitor_of}
use Rattle.nut_in_time.specs.Pace.{Pace, FromOn, IsSteady, KeepsPace, Says, clock_at, seen_at, shown_at}
use Rattle.nut_in_time.specs.InTime.{BeginsBy, EachLine, IsHaltedBy, IsUntil, Needs, has_fsd, is_low, turn}

-- Since `start` the links of these lines are up and keep pace; they may just have been made. Their UPSes are shown with
-- words that pass the test, and the machine needs them.
pub record IsReturning (setup : Setup) (pace : Pace) (m : ℕ) (Words : List (List ℕ) → Bool) (low : ℕ → Bool)
    (start schedule : List Step) : Type 0 where
  pub front : IsFront start schedule
  pub needs : Needs (monitor_of setup m) low
  pub keeps : EachLine setup m low (λ i. KeepsPace setup pace m i start schedule)
  pub shows : EachLine setup m low (λ i. FromOn start schedule (λ early. Says Words (shown_at setup early (line_of setup m i).ups)))

-- The longest time until the next status query on such a link: it had been opened, or four answers at most open it.
abbrev pub turn_again : Configuration → Pace → ℕ
turn_again configuration pace = max (turn configuration pace) (4 * pace.delay)

-- An answer later the machine knows what is shown. By then the shutdown begins, and the machine is in Halted `to_halted`
-- after that, whatever it hears from `middle` on.
abbrev pub StopsLater : Setup → Pace → ℕ → (List (List ℕ) → Bool) → (ℕ → Bool) → List Step → List Step → List Step → Type 0
StopsLater setup pace m Words low start middle schedule =
    let t : ℕ = clock_at setup m start + turn_again (monitor_of setup m) pace + pace.delay in
    IsFront middle schedule → IsReturning setup pace m Words low start middle → IsSteady setup pace m start schedule →
    BeginsBy (monitor_of setup m) t t (seen_at setup m middle) × (IsUntil setup m t middle → IsHaltedBy setup pace m t start schedule)

-- if the lines are primary and their UPSes on a low battery
abbrev pub ReturningPrimariesStop : Setup → List Step → Type 0
ReturningPrimariesStop setup schedule = (pace : Pace) (m : ℕ) (low : ℕ → Bool) (start middle : List Step) →
    EachLine setup m low (λ i. (line_of setup m i).primary ≡ true) → StopsLater setup pace m is_low low start middle schedule

-- or if their shutdown was forced
abbrev pub ReturningForcedStop : Setup → List Step → Type 0
ReturningForcedStop setup schedule = (pace : Pace) (m : ℕ) (low : ℕ → Bool) (start middle : List Step) →
    StopsLater setup pace m has_fsd low start middle schedule
