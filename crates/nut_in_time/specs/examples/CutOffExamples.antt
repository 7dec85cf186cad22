-- Machines that are cut off, computed from the definitions: on battery they stop as late as they may, on line power one goes
-- on.
use Rattle.std.specs.Prelude.{◌≡◌, ℕ, ◌-◌, List, [], ◌∷◌, ◌++◌, codes, length, reverse, take, true, false, Some, None}
use Rattle.nut_monitor_spec.specs.Event.{Event, LinkLost}
use Rattle.nut_monitor_spec.specs.Trace.{begun, clock, has_begun, linked, phase, polled, status, trace}
use Rattle.nut_monitor_spec.specs.declared.Phase.TheVariants.{Forcing, Watching}
use Rattle.nut_monitor_spec.specs.examples.Examples.{Happens, at_moment, opens, run, shows, shows_other, two_primaries}
use Rattle.nut_fleet.specs.Schedule.{Step, CutMonitor, Driver, Link}
use Rattle.nut_fleet.specs.World.{Setup, is_linked, monitor_of, world}
use Rattle.nut_fleet.specs.examples.Examples.{alone, live, rounds, says}
use Rattle.nut_in_time.specs.AnyServers.{IsEven}
use Rattle.nut_in_time.specs.Pace.{seen_at, shown_at}
use Rattle.nut_in_time.specs.InTime.{is_low, is_stopped, to_halted}
use Rattle.nut_in_time.specs.CutOff.{HearsOnly, IsCutOff, ShowsOnly, is_on_line}
use Rattle.nut_in_time.specs.examples.AnyServersExamples.{moments, newest_of}
use Rattle.nut_in_time.specs.examples.Examples.{all, lone, pace, seconds}

-- what monitor 0 was told by this time of a schedule, and in the newest steps of one
abbrev pub told : Setup → List Step → List Event
told setup early = (world setup early).monitor 0

abbrev pub told_since : Setup → List Step → List Step → List Event
told_since setup newest start = take (length (told setup (newest ++ start)) - length (told setup start)) (told setup (newest ++ start))

-- The primary has just read this status. Four seconds later its link is lost.
abbrev pub lost : List ℕ → List Step
lost status = reverse (live status ++ Link 0 0 ∷ rounds 0 5 ++ seconds 0 4 ++ CutMonitor 0 0 ∷ [])

-- n seconds later
abbrev pub later : ℕ → List Step
later n = reverse (seconds 4 n)

-- A machine that isn't the primary has just read that its UPS is on battery. Two seconds later the battery is low.
abbrev pub gets_low : List Step
gets_low = reverse (live (codes "OB") ++ Link 0 0 ∷ rounds 0 4 ++ seconds 0 2 ++ says (codes "OB LB") ∷ [])

-- It reads that once. Then the driver's data are stale, and a query is refused. The next one waits for n seconds.
abbrev pub goes_stale : ℕ → List Step
goes_stale n =
    reverse (seconds 2 3 ++ rounds 0 1 ++ Driver 0 (codes "DATASTALE") ∷ seconds 5 5 ++ rounds 0 1 ++ seconds 10 5 ++ seconds 15 n)

-- Its shutdown has begun when the UPS is on line again, and it reads that. Then n seconds pass.
abbrev pub comes_back : ℕ → List Step
comes_back n = reverse (Driver 0 (codes "DATAOK") ∷ says (codes "OL") ∷ rounds 0 1 ++ seconds 16 n) ++ goes_stale 1 ++ gets_low

-- The primary of a UPS at each of two servers has just read that both are on battery.
abbrev pub both_on_battery : List Event
both_on_battery = run two_primaries (at_moment 0 ∷ opens true 0 ++ shows (codes "OB") ∷ opens true 1 ++ shows_other (codes "OB") ∷ [])

-- It loses one link, and reads on the other that the battery is low.
abbrev pub loses_one : ℕ → List Event
loses_one n = newest_of two_primaries (Happens (LinkLost 0) ∷ moments 0 5 ++ shows_other (codes "OB LB") ∷ moments 5 n) both_on_battery

pub record CutOffExamples : Type 0 where
  pub down : is_linked alone (world alone (lost (codes "OB"))) 0 0 ≡ false
  -- on battery: DEADTIME 15 is over at 16, and then HOSTSYNC 15 and FINALDELAY 5 follow
  pub cut_off : IsCutOff (monitor_of alone 0) false all 0 (told alone (lost (codes "OB"))) (told_since alone (later 12) (lost (codes "OB")))
  pub even : IsEven (monitor_of alone 0) pace (told alone (lost (codes "OB"))) (told_since alone (later 33) (lost (codes "OB")))
  pub started : clock (seen_at alone 0 (lost (codes "OB"))) ≡ 4
  pub at_15 : clock (seen_at alone 0 (later 11 ++ lost (codes "OB"))) ≡ 15
  pub not_yet : has_begun (monitor_of alone 0) (seen_at alone 0 (later 11 ++ lost (codes "OB"))) ≡ false
  pub begun_at : clock (begun (monitor_of alone 0) (seen_at alone 0 (later 12 ++ lost (codes "OB")))) ≡ 16
  pub takes : to_halted (monitor_of alone 0) pace ≡ 21
  pub still_up : is_stopped alone 0 (later 32 ++ lost (codes "OB")) ≡ false
  pub is_down : is_stopped alone 0 (later 33 ++ lost (codes "OB")) ≡ true
  pub at_last : clock (seen_at alone 0 (later 33 ++ lost (codes "OB"))) ≡ 37
  -- a driver that goes stale: HOSTSYNC 15 is over at 16, and then FINALDELAY 5 follows, whatever is read then
  pub shows : ShowsOnly is_low lone 0 gets_low (goes_stale 1 ++ gets_low) 0
  pub refused : shown_at lone (goes_stale 0 ++ gets_low) (codes "su700") ≡ None
  pub newest : told lone (goes_stale 1 ++ gets_low) ≡ told_since lone (goes_stale 1) gets_low ++ told lone gets_low
  pub went_stale : IsCutOff (monitor_of lone 0) true all 0 (told lone gets_low) (told_since lone (goes_stale 1) gets_low)
  pub last_read : status 0 (seen_at lone 0 (goes_stale 0 ++ gets_low)) ≡ Some (codes "OB" ∷ codes "LB" ∷ [])
  pub read_at : polled 0 (seen_at lone 0 (goes_stale 0 ++ gets_low)) ≡ 5
  pub waits_at : clock (seen_at lone 0 (goes_stale 0 ++ gets_low)) ≡ 15
  pub still_waits : has_begun (monitor_of lone 0) (seen_at lone 0 (goes_stale 0 ++ gets_low)) ≡ false
  pub then_begun : clock (begun (monitor_of lone 0) (seen_at lone 0 (goes_stale 1 ++ gets_low))) ≡ 16
  pub read_later : status 0 (seen_at lone 0 (comes_back 0)) ≡ Some (codes "OL" ∷ [])
  pub then_up : is_stopped lone 0 (comes_back 4) ≡ false
  pub then_down : is_stopped lone 0 (comes_back 5) ≡ true
  -- two servers: DEADTIME 15 of the one that is lost is over at 16
  pub other_up : linked 1 (trace two_primaries (loses_one 11 ++ both_on_battery)) ≡ true
  pub one_is_lost : IsCutOff two_primaries false all 0 both_on_battery (loses_one 11)
  pub one_is_enough : phase two_primaries (trace two_primaries (loses_one 10 ++ both_on_battery)) ≡ Watching
  pub none_is_left : phase two_primaries (trace two_primaries (loses_one 11 ++ both_on_battery)) ≡ Forcing
  -- on line
  pub silent :
      HearsOnly (monitor_of alone 0) is_on_line (told alone (lost (codes "OL"))) (told_since alone (later 60) (lost (codes "OL"))) 0
  pub goes_on : has_begun (monitor_of alone 0) (seen_at alone 0 (later 60 ++ lost (codes "OL"))) ≡ false
