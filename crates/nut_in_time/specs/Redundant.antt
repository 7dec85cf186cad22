-- Machines with more UPSes than they need.
use Rattle.std.specs.Prelude.{ℕ, suc, ◌≡◌, ◌+◌, ◌<◌, ◌≤◌, true, List, length, Bool}
use Rattle.nut_monitor_spec.specs.Configuration.{Configuration, line_in}
use Rattle.nut_fleet.specs.Schedule.{Step, IsFront}
use Rattle.nut_fleet.specs.World.{Setup, monitor_of, line_of}
use Rattle.nut_in_time.specs.Pace.{Pace, IsSteady, IsWatched, clock_at, seen_at}
use Rattle.nut_in_time.specs.InTime.{IsHaltedBy, IsKnown, IsUntil, begun_at, has_begun_at, is_low, known_by, secondary_by}
use Rattle.nut_in_time.specs.InVain.{is_bearable}

-- Each UPS alone supplies enough, and at least one is needed: for example two UPSes and MINSUPPLIES 1.
pub record IsRedundant (configuration : Configuration) : Type 0 where
  pub there : 0 < length configuration.lines
  pub some : 0 < configuration.min_supplies
  pub each : (i : ℕ) → i < length configuration.lines → configuration.min_supplies ≤ (line_in configuration.lines i).power

-- While one of the UPSes gives no reason for a shutdown, whatever happens to the others, no shutdown begins after the
-- monitor knows that.
abbrev pub OneIsEnough : Setup → List Step → Type 0
OneIsEnough setup schedule = (pace : Pace) (m i : ℕ) (start : List Step) →
    let configuration : Configuration = monitor_of setup m in
    IsRedundant configuration → i < length configuration.lines →
    IsFront start schedule → IsSteady setup pace m start schedule → IsWatched setup pace m i is_bearable start schedule →
    configuration.poll_freq + pace.skip + pace.delay ≤ configuration.dead_time →
    has_begun_at setup m schedule ≡ true → begun_at setup m schedule ≤ known_by setup pace m start

-- From `start`, when the last of them became so, to `middle`, all UPSes are on a low battery.
pub record AllAreLow (setup : Setup) (pace : Pace) (m : ℕ) (start middle : List Step) : Type 0 where
  pub front : IsFront start middle
  pub steady : IsSteady setup pace m start middle
  pub lines : (i : ℕ) → i < length (monitor_of setup m).lines → IsWatched setup pace m i is_low start middle

-- Then the machine is in Halted as soon after that as if the last UPS had been its only one.
pub record LastCounts (setup : Setup) (pace : Pace) (m : ℕ) (start middle schedule : List Step) : Type 0 where
  pub primary : IsRedundant (monitor_of setup m) → IsFront middle schedule → AllAreLow setup pace m start middle →
      ((i : ℕ) → i < length (monitor_of setup m).lines → (line_of setup m i).primary ≡ true) →
      IsUntil setup m (known_by setup pace m start) middle → IsHaltedBy setup pace m (known_by setup pace m start) start schedule
  pub secondary : (known : Bool) → IsRedundant (monitor_of setup m) → IsFront middle schedule → AllAreLow setup pace m start middle →
      ((i : ℕ) → i < length (monitor_of setup m).lines → IsKnown known (seen_at setup m start) i) →
      IsUntil setup m (secondary_by (monitor_of setup m) pace known (clock_at setup m start)) middle →
      IsHaltedBy setup pace m (secondary_by (monitor_of setup m) pace known (clock_at setup m start) + suc pace.skip) start schedule
