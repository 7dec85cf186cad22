-- Written schedules in which bytes are carried in time.
use Rattle.std.specs.Prelude.{ℕ, ◌≡◌, ◌&&◌, Bool, true, List, ◌++◌}
use Rattle.nut_fleet.specs.Schedule.{Step}
use Rattle.nut_fleet.specs.World.{Setup, has_link, is_linked, world}
use Rattle.nut_in_time.specs.Pace.{Pace, KeepsPace}
use Rattle.nut_in_time.specs.Tests.{each_since, is_quiet, is_emptied}

-- The link is up from `start` on, no bytes are on their way on it at `start`, and all bytes that it is given are
-- carried before the monitor's clock moves on.
abbrev pub is_carried : Setup → ℕ → ℕ → List Step → List Step → Bool
is_carried setup m i start newest =
    each_since (λ early. is_linked setup (world setup early) m i) start newest
    && (is_quiet setup m i (world setup start) && is_emptied setup m i start newest)

-- Such a link keeps any pace, also that without delay.
abbrev pub CarriedLinksKeepPace : Setup → Type 0
CarriedLinksKeepPace setup = (pace : Pace) (m i : ℕ) (start newest : List Step) → has_link setup m i ≡ true →
    is_carried setup m i start newest ≡ true → KeepsPace setup pace m i start (newest ++ start)
