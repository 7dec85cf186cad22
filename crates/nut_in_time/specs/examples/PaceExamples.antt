-- More schedules that keep a pace: a clock that leaves out seconds, answers that take longer than POLLFREQ, and a
-- machine that needs two UPSes. Each example is computed from the definitions.
use Rattle.std.specs.Prelude.{◌≡◌, ℕ, zero, suc, List, [], ◌∷◌, ◌++◌, codes, reverse, Bool, true, false}
use Rattle.nut_monitor_spec.specs.Trace.{clock, begun, has_begun}
use Rattle.nut_fleet.specs.Schedule.{Step, MonitorClock, Link, Out, Reach, Back, Land}
use Rattle.nut_fleet.specs.World.{Setup, monitor_of}
use Rattle.nut_fleet.specs.Fleet.{IsSetup}
use Rattle.nut_fleet.specs.examples.Examples.{alone, live, rounds, says}
use Rattle.nut_in_time.specs.Pace.{Pace, seen_at}
use Rattle.nut_in_time.specs.InTime.{is_low, IsFailing, seen_by}
use Rattle.nut_in_time.specs.examples.Examples.{all, both_on_line, pace, rounds_too, seconds, start, two}

-- ---- a clock that leaves out seconds, and answers that take longer than POLLFREQ

-- The primary's clock moves on by two seconds at a time, so its next query is put a second late.
abbrev pub skipping : Pace
skipping = record { delay = 2; skip = 1 }

abbrev pub leaps : List Step
leaps = reverse (MonitorClock 0 2 ∷ MonitorClock 0 4 ∷ MonitorClock 0 6 ∷ MonitorClock 0 8 ∷ rounds 0 1)

-- An answer takes 7 seconds. The first says that the UPS is on line: it was sent before the battery was low.
abbrev pub sluggish : Pace
sluggish = record { delay = 7; skip = 0 }

abbrev pub on_its_way : List Step
on_its_way = reverse (live (codes "OL") ++ Link 0 0 ∷ rounds 0 4 ++ Out 0 0 512 ∷ Reach 0 0 512 ∷ Back 0 0 512 ∷ says (codes "OB LB") ∷ [])

abbrev pub comes : List Step
comes = reverse (seconds 0 7 ++ Land 0 0 512 ∷ seconds 7 7)

abbrev pub comes_at_last : List Step
comes_at_last = reverse (rounds 0 1) ++ comes

-- ---- two UPSes, of which both are needed

abbrev pub needs_both : Setup
needs_both = record two { monitors = record (monitor_of two 0) { min_supplies = 2 } ∷ [] }

abbrev pub only_first : ℕ → Bool
only_first zero = true
only_first (suc i) = false

-- The first UPS is on a low battery, and the news of that takes 2 seconds. The second link is emptied each time.
abbrev pub first_low : List Step
first_low = says (codes "OB LB") ∷ both_on_line

abbrev pub first_waits : List Step
first_waits = reverse (seconds 0 5 ++ rounds_too 1 ++ seconds 5 2)

abbrev pub reads_first : List Step
reads_first = reverse (rounds 0 1) ++ first_waits

pub record PaceExamples : Type 0 where
  -- a clock that leaves out seconds
  pub skips : IsFailing alone skipping 0 is_low all start (leaps ++ start)
  pub skips_by : seen_by (monitor_of alone 0) skipping (clock (seen_at alone 0 start)) ≡ 8
  pub skips_begun : clock (begun (monitor_of alone 0) (seen_at alone 0 (leaps ++ start))) ≡ 8
  -- answers that take longer than POLLFREQ
  pub late : IsFailing alone sluggish 0 is_low all on_its_way (comes_at_last ++ on_its_way)
  pub late_by : seen_by (monitor_of alone 0) sluggish (clock (seen_at alone 0 on_its_way)) ≡ 14
  pub late_not_begun : has_begun (monitor_of alone 0) (seen_at alone 0 (comes ++ on_its_way)) ≡ false
  pub late_begun : clock (begun (monitor_of alone 0) (seen_at alone 0 (comes_at_last ++ on_its_way))) ≡ 14
  -- two UPSes, both of them needed: the one on a low battery stops the machine, as late as it may
  pub setup_of_both : IsSetup needs_both
  pub first_fails : IsFailing needs_both pace 0 is_low only_first first_low (reads_first ++ first_low)
  pub first_by : seen_by (monitor_of needs_both 0) pace (clock (seen_at needs_both 0 first_low)) ≡ 7
  pub first_not_begun : has_begun (monitor_of needs_both 0) (seen_at needs_both 0 (first_waits ++ first_low)) ≡ false
  pub first_begun : clock (begun (monitor_of needs_both 0) (seen_at needs_both 0 (reads_first ++ first_low))) ≡ 7
