-- Schedules that keep a pace, and what comes in time in them. Each example is computed from the definitions.
use Rattle.std.specs.Prelude.{◌≡◌, ℕ, zero, suc, ◌+◌, List, [], ◌∷◌, ◌++◌, codes, reverse, Bool, true, false, Some, is_some}
use Rattle.nut_monitor_spec.specs.declared.Phase.TheVariants.{Final, Halted}
use Rattle.nut_words.specs.Quoting.{quoted}
use Rattle.nut_monitor_spec.specs.Configuration.{line_in}
use Rattle.nut_monitor_spec.specs.Trace.{status, polled, clock, calm, begun, has_begun, phase}
use Rattle.nut_fleet.specs.Schedule.{Step, MonitorClock, Up, Driver, Link, Out, Reach, Back, Land}
use Rattle.nut_fleet.specs.World.{Setup, monitor_of, world}
use Rattle.nut_fleet.specs.Fleet.{IsSetup}
use Rattle.nut_fleet.specs.examples.Examples.{primary, alone, secondary, live, rounds, says}
use Rattle.nut_in_time.specs.Pace.{Pace, IsSteady, IsWatched, seen_at}
use Rattle.nut_in_time.specs.Redundant.{IsRedundant, AllAreLow}
use Rattle.nut_in_time.specs.Quiet.{IsQuiet, IsEmptied}
use Rattle.nut_in_time.specs.Carried.{is_carried}
use Rattle.nut_in_time.specs.Round.{is_rounded}
use Rattle.nut_in_time.specs.Tests.{each_since, is_emptied, keeps_pace}
use Rattle.nut_in_time.specs.InVain.{is_bearable, IsBorne, WasBorne}
use Rattle.nut_in_time.specs.InTime.{is_low, IsFailing, seen_by, secondary_by, to_halted}

-- a query is answered within 2 seconds, and the clock leaves out no second
abbrev pub pace : Pace
pace = record { delay = 2; skip = 0 }

abbrev pub all : ℕ → Bool
all i = true

-- the clock of monitor 0 moves on n times by a second, from this time
abbrev pub seconds : ℕ → ℕ → List Step
seconds time zero = []
seconds time (suc n) = MonitorClock 0 (suc time) ∷ seconds (suc time) n

-- The primary has just read that its UPS is on line; then the battery is low.
abbrev pub start : List Step
start = reverse (live (codes "OL") ++ Link 0 0 ∷ rounds 0 5 ++ says (codes "OB LB") ∷ [])

-- Its next query is put POLLFREQ later, and the answer takes 2 seconds.
abbrev pub waits : List Step
waits = reverse (seconds 0 7)

abbrev pub reads : List Step
reads = reverse (seconds 0 7 ++ rounds 0 1)

abbrev pub goes_on : List Step
goes_on = reverse (seconds 0 7 ++ rounds 0 1 ++ seconds 7 1)

-- From then on it hears nothing more.
abbrev pub almost : List Step
almost = reverse (seconds 0 7 ++ rounds 0 1 ++ seconds 7 20)

abbrev pub ends : List Step
ends = reverse (seconds 0 7 ++ rounds 0 1 ++ seconds 7 21)

-- ---- a machine that isn't a primary

abbrev pub lone : Setup
lone = record alone { monitors = secondary ∷ [] }

-- Its query is answered at 5 seconds: the UPS is on line. The battery is low while that answer is still on its way.
abbrev pub sent_off : List Step
sent_off = reverse (live (codes "OL") ++ Link 0 0 ∷ rounds 0 4 ++ seconds 0 5 ++ Out 0 0 512 ∷ Reach 0 0 512 ∷ Back 0 0 512 ∷ says (codes "OB LB") ∷ [])

-- That answer arrives 2 seconds later, and those that follow at once.
abbrev pub calmed : List Step
calmed = seconds 5 2 ++ Land 0 0 512 ∷ seconds 7 3 ++ rounds 0 1 ++ seconds 10 5 ++ rounds 0 1 ++ seconds 15 5 ++ rounds 0 1

-- ---- pipes that are emptied

-- the primary again: all bytes are carried within the second
abbrev pub emptied : List Step
emptied = reverse (seconds 0 5 ++ rounds 0 1)

-- ---- a link that is never quiet

-- This primary asks again as soon as it is answered.
abbrev pub eager : Setup
eager = record alone { monitors = record primary { poll_freq = 0 } ∷ [] }

abbrev pub made : List Step
made = reverse (live (codes "OL") ++ Link 0 0 ∷ [])

-- these steps in each of n seconds, from this time
abbrev pub each_second : List Step → ℕ → ℕ → List Step
each_second steps time zero = []
each_second steps time (suc n) = steps ++ MonitorClock 0 (suc time) ∷ each_second steps (suc time) n

-- In each second a query goes to the server, its answer comes back, and the next query is put.
abbrev pub busy : List Step
busy = reverse (each_second (rounds 0 1) 0 6)

-- The same steps, but the query is put into the pipe only after the step that would carry it to the server.
abbrev pub slow : List Step
slow = reverse (each_second (Reach 0 0 512 ∷ Out 0 0 512 ∷ Back 0 0 512 ∷ Land 0 0 512 ∷ []) 0 6)

-- ---- a UPS on battery

-- The primary waits for a status as long as one may take to come: POLLFREQ and 2 seconds. `hasty` waits a second less.
abbrev pub patient : Setup
patient = record alone { monitors = record primary { dead_time = 7 } ∷ [] }

abbrev pub hasty : Setup
hasty = record alone { monitors = record primary { dead_time = 6 } ∷ [] }

-- The primary has just read that its UPS is on line.
abbrev pub on_line : List Step
on_line = reverse (live (codes "OL") ++ Link 0 0 ∷ rounds 0 5)

-- Then the UPS is on battery. The first answer that says so takes no time, the second 2 seconds.
abbrev pub on_battery : List Step
on_battery = reverse (says (codes "OB") ∷ seconds 0 5 ++ rounds 0 1 ++ seconds 5 7)

-- This continues for longer than DEADTIME.
abbrev pub goes_on_so : List Step
goes_on_so = reverse (rounds 0 1 ++ seconds 12 5) ++ on_battery

-- ---- two UPSes, of which one is enough

-- the primary of two UPSes, with MINSUPPLIES 1
abbrev pub two : Setup
two = record alone {
  server = record alone.server { upses = alone.server.upses ++ record { name = codes "su800"; driver = codes "dummy-ups"; description = [] } ∷ [] };
  monitors = record primary { lines = primary.lines ++ record (line_in primary.lines 0) { ups = codes "su800" } ∷ [] } ∷ [];
}

-- `says` and `rounds` for the second UPS and the second link
abbrev pub says_too : List ℕ → Step
says_too status = Driver 1 (codes "SETINFO ups.status " ++ quoted status)

abbrev pub rounds_too : ℕ → List Step
rounds_too zero = []
rounds_too (suc n) = Out 0 1 512 ∷ Reach 0 1 512 ∷ Back 0 1 512 ∷ Land 0 1 512 ∷ rounds_too n

abbrev pub both_on_line : List Step
both_on_line = reverse (live (codes "OL") ++ Up 1 ∷ says_too (codes "OL") ∷ Driver 1 (codes "DATAOK") ∷ Driver 1 (codes "DUMPDONE") ∷ Link 0 0 ∷ rounds 0 5 ++ Link 0 1 ∷ rounds_too 5)

-- The first UPS is on a low battery, and the monitor has read that.
abbrev pub one_low : List Step
one_low = reverse (says (codes "OB LB") ∷ seconds 0 5 ++ rounds 0 1 ++ rounds_too 1 ++ seconds 5 5 ++ rounds 0 1 ++ rounds_too 1)

-- Then the second UPS is on a low battery, too. The next answers take 2 seconds.
abbrev pub both_low : List Step
both_low = says_too (codes "OB LB") ∷ (one_low ++ both_on_line)

abbrev pub reads_both : List Step
reads_both = reverse (seconds 10 7 ++ rounds 0 1 ++ rounds_too 1)

pub record InTimeExamples : Type 0 where
  pub setups : IsSetup alone × IsSetup lone
  -- a primary: the premises hold, and the bounds are reached
  pub failing : IsFailing alone pace 0 is_low all start (goes_on ++ start)
  pub known_by : seen_by (monitor_of alone 0) pace (clock (seen_at alone 0 start)) ≡ 7
  pub unread : status 0 (seen_at alone 0 (waits ++ start)) ≡ Some (codes "OL" ∷ [])
  pub read_at : polled 0 (seen_at alone 0 (waits ++ start)) ≡ 0
  pub at_last : clock (seen_at alone 0 (waits ++ start)) ≡ 7
  pub not_begun : has_begun (monitor_of alone 0) (seen_at alone 0 (waits ++ start)) ≡ false
  pub begun_at : clock (begun (monitor_of alone 0) (seen_at alone 0 (reads ++ start))) ≡ 7
  pub past_it : clock (seen_at alone 0 (goes_on ++ start)) ≡ 8
  -- and so on to Halted
  pub steady : IsSteady alone pace 0 start (ends ++ start)
  pub to_the_end : to_halted (monitor_of alone 0) pace ≡ 21
  pub final : phase (monitor_of alone 0) (seen_at alone 0 (almost ++ start)) ≡ Final
  pub halted : phase (monitor_of alone 0) (seen_at alone 0 (ends ++ start)) ≡ Halted true
  pub halted_at : clock (seen_at alone 0 (ends ++ start)) ≡ 28
  -- a secondary waits for HOSTSYNC after the last calm answer
  pub failing_alone : IsFailing lone pace 0 is_low all sent_off (reverse (calmed ++ seconds 20 3) ++ sent_off)
  pub has_status : is_some (status 0 (seen_at lone 0 sent_off)) ≡ true
  pub begins_by : secondary_by (monitor_of lone 0) pace true (clock (seen_at lone 0 sent_off)) ≡ 22
  pub calm_at : calm 0 (seen_at lone 0 (reverse (calmed ++ seconds 20 2) ++ sent_off)) ≡ 7
  pub still_watching : has_begun (monitor_of lone 0) (seen_at lone 0 (reverse (calmed ++ seconds 20 2) ++ sent_off)) ≡ false
  pub then_begun : clock (begun (monitor_of lone 0) (seen_at lone 0 (reverse (calmed ++ seconds 20 3) ++ sent_off))) ≡ 23
  pub not_halted : phase (monitor_of lone 0) (seen_at lone 0 (reverse (calmed ++ seconds 20 7) ++ sent_off)) ≡ Final
  pub then_halted : phase (monitor_of lone 0) (seen_at lone 0 (reverse (calmed ++ seconds 20 8) ++ sent_off)) ≡ Halted false
  pub halted_when : secondary_by (monitor_of lone 0) pace true (clock (seen_at lone 0 sent_off)) + 1 + to_halted (monitor_of lone 0) pace ≡ 28
  -- pipes that are emptied
  pub quiet : IsQuiet alone (world alone start) 0 0
  pub pipes_emptied : IsEmptied alone 0 0 start (emptied ++ start)
  pub carried : is_carried alone 0 0 start emptied ≡ true
  pub not_carried : is_carried alone 0 0 start reads ≡ false
  pub begun_soon : clock (begun (monitor_of alone 0) (seen_at alone 0 (emptied ++ start))) ≡ 5
  pub as_soon_as : seen_by (monitor_of alone 0) (record { delay = 0; skip = 0 }) (clock (seen_at alone 0 start)) ≡ 5
  -- a link that goes round each second: an answer may take a second, and with less the link doesn't keep pace
  pub rounded : is_rounded eager 0 0 made busy ≡ true
  pub never_quiet : is_emptied eager 0 0 made busy ≡ false
  pub keeps : each_since (keeps_pace eager (record { delay = 1; skip = 0 }) 0 0) made busy ≡ true
  pub keeps_no_less : each_since (keeps_pace eager (record { delay = 0; skip = 0 }) 0 0) made busy ≡ false
  pub not_rounded : is_rounded eager 0 0 made slow ≡ false
  pub too_slow : each_since (keeps_pace eager (record { delay = 1; skip = 0 }) 0 0) made slow ≡ false
  pub no_round : is_rounded alone 0 0 start reads ≡ false
  -- a UPS on battery, of which news comes just in time
  pub setups_on_battery : IsSetup patient × IsSetup hasty
  pub borne : IsBorne patient pace 0 all on_line (goes_on_so ++ on_line)
  pub was_borne : WasBorne patient pace 0 0 on_line
  pub not_begun_at_first : has_begun (monitor_of patient 0) (seen_at patient 0 on_line) ≡ false
  pub lasts_until : seen_by (monitor_of patient 0) pace 0 ≡ 7
  pub known_on_battery : status 0 (seen_at patient 0 (goes_on_so ++ on_line)) ≡ Some (codes "OB" ∷ [])
  pub for_so_long : clock (seen_at patient 0 (goes_on_so ++ on_line)) ≡ 17
  pub nobody_halts : has_begun (monitor_of patient 0) (seen_at patient 0 (goes_on_so ++ on_line)) ≡ false
  -- with a second less to wait, the shutdown of the same machine begins
  pub watched_in_haste : IsWatched hasty pace 0 0 is_bearable on_line (on_battery ++ on_line)
  pub steady_in_haste : IsSteady hasty pace 0 on_line (on_battery ++ on_line)
  pub not_borne : IsBorne hasty pace 0 all on_line (on_battery ++ on_line) → ⊥
  pub halts_in_haste : clock (begun (monitor_of hasty 0) (seen_at hasty 0 (on_battery ++ on_line))) ≡ 12
  -- which statuses are no reason for a shutdown
  pub bearable : is_bearable (codes "OB" ∷ codes "DISCHRG" ∷ []) ≡ true
  pub bearable_at_calibration : is_bearable (codes "OB" ∷ codes "LB" ∷ codes "CAL" ∷ []) ≡ true
  pub unbearable : is_bearable (codes "OB" ∷ codes "LB" ∷ []) ≡ false
  pub unbearable_if_forced : is_bearable (codes "FSD" ∷ codes "OL" ∷ []) ≡ false
  -- two UPSes: the one on a low battery stops nobody
  pub setup_of_two : IsSetup two
  pub redundant : IsRedundant (monitor_of two 0)
  pub one_borne : IsWatched two pace 0 1 is_bearable both_on_line (one_low ++ both_on_line)
  pub one_low_read : status 0 (seen_at two 0 (one_low ++ both_on_line)) ≡ Some (codes "OB" ∷ codes "LB" ∷ [])
  pub one_is_enough : has_begun (monitor_of two 0) (seen_at two 0 (one_low ++ both_on_line)) ≡ false
  -- and both together do, as late as they may
  pub low_both : AllAreLow two pace 0 both_low (reads_both ++ both_low)
  pub both_known_by : seen_by (monitor_of two 0) pace (clock (seen_at two 0 both_low)) ≡ 17
  pub both_begun_at : clock (begun (monitor_of two 0) (seen_at two 0 (reads_both ++ both_low))) ≡ 17
