-- Machines that don't halt without need.
use Rattle.std.specs.Prelude.{ℕ, ◌≡◌, ◌+◌, ◌<◌, ◌≤◌, ◌&&◌, Bool, true, false, not, List, Some, is_some}
use Rattle.nut_monitor_spec.specs.Decision.{power_where}
use Rattle.nut_monitor_spec.specs.Trace.{polled, status}
use Rattle.nut_fleet.specs.Schedule.{Step, IsFront}
use Rattle.nut_fleet.specs.World.{Setup, monitor_of, line_of}
use Rattle.nut_in_time.specs.Pace.{Pace, IsSteady, IsWatched, clock_at, seen_at, shown_at}
use Rattle.nut_in_time.specs.InTime.{EachLine, begun_at, has_begun_at, has_fsd, is_low, known_by, seen_by}

-- the status has neither FSD, nor OB and LB without CAL: no reason to stop, as long as news of the UPS comes
abbrev pub is_bearable : List (List ℕ) → Bool
is_bearable words = not (has_fsd words) && not (is_low words)

-- Since `start` the UPSes of these lines are shown with such words, in time, and they supply enough, whatever the
-- others do. DEADTIME is at least the age that a status can have.
pub record IsBorne (setup : Setup) (pace : Pace) (m : ℕ) (fine : ℕ → Bool) (start schedule : List Step) : Type 0 where
  pub front : IsFront start schedule
  pub steady : IsSteady setup pace m start schedule
  pub lines : EachLine setup m fine (λ i. IsWatched setup pace m i is_bearable start schedule)
  pub enough : (monitor_of setup m).min_supplies ≤ power_where fine (monitor_of setup m).lines
  pub patient : (monitor_of setup m).poll_freq + pace.skip + pace.delay ≤ (monitor_of setup m).dead_time

-- While lines that supply enough are borne, no shutdown begins later than `seen_by`.
abbrev pub NoneBeginsLater : Setup → List Step → Type 0
NoneBeginsLater setup schedule = (pace : Pace) (m : ℕ) (fine : ℕ → Bool) (start : List Step) →
    IsBorne setup pace m fine start schedule → has_begun_at setup m schedule ≡ true →
    begun_at setup m schedule ≤ known_by setup pace m start

-- A shutdown that hasn't begun when the clock is past `seen_by` doesn't begin as long as these lines are borne.
abbrev pub NoneBeginsAnyMore : Setup → List Step → Type 0
NoneBeginsAnyMore setup schedule = (pace : Pace) (m : ℕ) (fine : ℕ → Bool) (start middle : List Step) →
    IsBorne setup pace m fine start schedule → IsFront middle schedule → known_by setup pace m start < clock_at setup m middle →
    has_begun_at setup m middle ≡ false → has_begun_at setup m schedule ≡ false

-- Up to `start` the UPS of line i was never shown with words that aren't bearable. The last status at `start`, if there
-- is one, isn't older than DEADTIME at `seen_by`.
pub record WasBorne (setup : Setup) (pace : Pace) (m i : ℕ) (start : List Step) : Type 0 where
  pub shown : (early : List Step) (words : List (List ℕ)) → IsFront early start →
      shown_at setup early (line_of setup m i).ups ≡ Some words → is_bearable words ≡ true
  pub young : is_some (status i (seen_at setup m start)) ≡ true →
      known_by setup pace m start ≤ polled i (seen_at setup m start) + (monitor_of setup m).dead_time

-- If `WasBorne` holds of these lines at `start`, `seen_by` from 0 is no longer than DEADTIME, and no shutdown has begun,
-- then none begins while they are borne.
abbrev pub NoneBegins : Setup → List Step → Type 0
NoneBegins setup schedule = (pace : Pace) (m : ℕ) (fine : ℕ → Bool) (start : List Step) →
    IsBorne setup pace m fine start schedule → EachLine setup m fine (λ i. WasBorne setup pace m i start) →
    seen_by (monitor_of setup m) pace 0 ≤ (monitor_of setup m).dead_time →
    has_begun_at setup m start ≡ false → has_begun_at setup m schedule ≡ false
