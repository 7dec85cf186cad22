-- Rooms whose machines keep different paces and stop as late as they may, computed from the definitions.
use Rattle.std.specs.Prelude.{◌≡◌, ℕ, zero, suc, ◌+◌, List, [], ◌∷◌, ◌++◌, codes, reverse, true, false}
use Rattle.nut_monitor_spec.specs.Configuration.{Configuration}
use Rattle.nut_monitor_spec.specs.Trace.{clock, begun, has_ended}
use Rattle.nut_fleet.specs.Schedule.{Step, MonitorClock, Link, Out, Reach, Back, Land}
use Rattle.nut_fleet.specs.World.{Setup, monitor_of}
use Rattle.nut_fleet.specs.Fleet.{IsSetup}
use Rattle.nut_fleet.specs.examples.Examples.{pair, primary, secondary, live, rounds, says}
use Rattle.nut_in_time.specs.Pace.{Pace, seen_at}
use Rattle.nut_in_time.specs.InTime.{is_stopped}
use Rattle.nut_in_time.specs.Room.{Follows, IsPatient, IsReady, IsRoom, IsStopping, accepted_in, host_sync_for, is_forced}
use Rattle.nut_in_time.specs.examples.Examples.{all}

-- a query is answered within this many seconds, and the clock leaves out no second
abbrev pub within : ℕ → Pace
within delay = record { delay = delay; skip = 0 }

-- ---- what is enough for the usual settings

-- a primary and four other machines, of which the last is far away: an answer takes a second at most, and 3 on that one
abbrev pub five : Setup
five = record pair { monitors = primary ∷ secondary ∷ secondary ∷ secondary ∷ secondary ∷ [] }

-- ---- rooms that reach the bounds

-- An answer takes 2 seconds at most on the primary, and 3 on the other machine.
abbrev pub paces : ℕ → Pace
paces zero = within 2
paces (suc m) = within 3

-- POLLFREQ and FINALDELAY are 1. The primary has this DEADTIME and this HOSTSYNC.
abbrev pub quick : Configuration → Configuration
quick configuration = record configuration { poll_freq = 1; final_delay = 1 }

abbrev pub distant : ℕ → ℕ → Setup
distant dead_time host_sync = record pair {
  monitors = record (quick primary) { dead_time = dead_time; host_sync = host_sync } ∷ quick secondary ∷ [];
}

-- each machine has read this status
abbrev pub up : List ℕ → List Step
up status = live status ++ Link 0 0 ∷ rounds 0 5 ++ Link 1 0 ∷ rounds 1 4

-- both clocks move on n times by a second, from this time, that of the primary first
abbrev pub seconds : ℕ → ℕ → List Step
seconds time zero = []
seconds time (suc n) = MonitorClock 0 (suc time) ∷ MonitorClock 1 (suc time) ∷ seconds (suc time) n

-- The other machine asks, and is answered, but the answer is still on its way when the primary's FSD is accepted.
abbrev pub answered : List Step
answered = rounds 1 1 ++ Out 1 0 512 ∷ Reach 1 0 512 ∷ Back 1 0 512 ∷ []

abbrev pub accepted : List Step
accepted = Out 0 0 512 ∷ Reach 0 0 512 ∷ []

-- That answer arrives 3 seconds later, and the next query takes 3 seconds again. The primary counts the logins.
abbrev pub learns : ℕ → List Step
learns time =
    Back 0 0 512 ∷ Land 0 0 512 ∷ seconds time 1 ++ MonitorClock 0 (time + 2) ∷ rounds 0 1 ++ MonitorClock 1 (time + 2) ∷ seconds (time + 2) 1 ++ Land 1 0 512
    ∷ MonitorClock 0 (time + 4) ∷ rounds 0 1 ++ MonitorClock 1 (time + 4) ∷ seconds (time + 4) 1 ++ MonitorClock 0 (time + 6) ∷ rounds 0 1
    ++ MonitorClock 1 (time + 6) ∷ rounds 1 1

-- ---- a primary that isn't patient

-- The UPS is on battery; then the battery is low.
abbrev pub low : List Step
low = reverse (up (codes "OB") ++ says (codes "OB LB") ∷ [])

-- The primary asks for the status at 1. DEADTIME 1 is over at 2: the shutdown begins. The answer comes at 3, and then FSD
-- takes 2 seconds.
abbrev pub unforced : List Step
unforced = reverse (seconds 0 2 ++ MonitorClock 0 3 ∷ rounds 0 1 ++ MonitorClock 1 3 ∷ rounds 1 1 ++ seconds 3 2 ++ answered)

-- With HOSTSYNC 9 the primary leaves Forcing at 12, while the other machine's clock is at 11.
abbrev pub too_early : List Step
too_early = reverse (accepted ++ learns 5 ++ MonitorClock 0 12 ∷ []) ++ unforced

-- With HOSTSYNC 10 it leaves Forcing at 13.
abbrev pub in_time : List Step
in_time = reverse (accepted ++ learns 5 ++ seconds 11 1 ++ MonitorClock 0 13 ∷ []) ++ unforced

-- ---- a patient primary

-- The UPS is on line, and both machines know that. Five seconds later the battery is low.
abbrev pub known : List Step
known = reverse (up (codes "OL"))

abbrev pub watches : List Step
watches = reverse (seconds 0 2 ++ MonitorClock 0 3 ∷ rounds 0 1 ++ MonitorClock 1 3 ∷ rounds 1 1 ++ seconds 3 1
    ++ MonitorClock 0 5 ∷ rounds 0 1 ++ MonitorClock 1 5 ∷ says (codes "OB LB") ∷ [])

abbrev pub low_later : List Step
low_later = watches ++ known

-- The primary has asked for the status at 5. The answer comes at 7, the shutdown begins, and FSD takes 2 seconds.
abbrev pub unforced_later : List Step
unforced_later = reverse (seconds 5 1 ++ rounds 1 1 ++ MonitorClock 0 7 ∷ rounds 0 1 ++ MonitorClock 1 7 ∷ seconds 7 2 ++ answered)

-- With HOSTSYNC 8 the primary leaves Forcing at 16, while the other machine's clock is at 15.
abbrev pub too_early_later : List Step
too_early_later = reverse (accepted ++ learns 9 ++ MonitorClock 0 16 ∷ []) ++ unforced_later

-- With HOSTSYNC 9 it leaves Forcing at 17.
abbrev pub in_time_later : List Step
in_time_later = reverse (accepted ++ learns 9 ++ seconds 15 1 ++ MonitorClock 0 17 ∷ []) ++ unforced_later

pub record RoomPaceExamples : Type 0 where
  -- five machines: HOSTSYNC 14 is enough for the one that is far away, 12 for the others
  pub setup_five : IsSetup five
  pub room_five : IsRoom five all (λ i. 0) 0
  pub enough_far : host_sync_for primary (within 1) false (monitor_of five 4) (within 3) 1 ≡ 14
  pub enough_near : host_sync_for primary (within 1) false (monitor_of five 3) (within 1) 1 ≡ 12
  -- if each answer takes 2 seconds at most, 15 is enough, and 14 if the primary is patient
  pub enough_for_two : host_sync_for primary (within 2) false secondary (within 2) 1 ≡ 15
  pub enough_if_patient : host_sync_for primary (within 2) true secondary (within 2) 1 ≡ 14
  -- a primary that isn't patient: the room fulfils the premises
  pub setups : IsSetup (distant 1 9) × IsSetup (distant 1 10)
  pub rooms : IsRoom (distant 1 9) all (λ i. 0) 0 × IsRoom (distant 1 10) all (λ i. 0) 0
  pub following : Follows (distant 1 9) 0 1 × Follows (distant 1 10) 0 1
  pub ready : IsReady (distant 1 9) (λ i. 0) 0 low × IsReady (distant 1 10) (λ i. 0) 0 low
  pub stopping_early : IsStopping (distant 1 9) paces 1 all (λ i. 0) 0 low (too_early ++ low)
  pub stopping : IsStopping (distant 1 10) paces 1 all (λ i. 0) 0 low (in_time ++ low)
  -- FSD is accepted no sooner than 3 seconds after the beginning
  pub accepted_by : accepted_in primary (paces 0) false ≡ 3
  pub begun_at : clock (begun (monitor_of (distant 1 10) 0) (seen_at (distant 1 10) 0 (unforced ++ low))) ≡ 2
  pub not_yet_forced : is_forced (distant 1 10) 0 (unforced ++ low) ≡ false
  pub at_that_time : clock (seen_at (distant 1 10) 0 (unforced ++ low)) ≡ 5
  -- HOSTSYNC has to be 10
  pub needed : host_sync_for (monitor_of (distant 1 10) 0) (paces 0) false (monitor_of (distant 1 10) 1) (paces 1) 1 ≡ 10
  pub goes_early : has_ended (monitor_of (distant 1 9) 0) (seen_at (distant 1 9) 0 (too_early ++ low)) ≡ true
  pub still_up : is_stopped (distant 1 9) 1 (too_early ++ low) ≡ false
  pub goes_in_time : has_ended (monitor_of (distant 1 10) 0) (seen_at (distant 1 10) 0 (in_time ++ low)) ≡ true
  pub is_down : is_stopped (distant 1 10) 1 (in_time ++ low) ≡ true
  -- a patient primary
  pub setups_later : IsSetup (distant 3 8) × IsSetup (distant 3 9)
  pub rooms_later : IsRoom (distant 3 8) all (λ i. 0) 0 × IsRoom (distant 3 9) all (λ i. 0) 0
  pub ready_later : IsReady (distant 3 8) (λ i. 0) 0 low_later × IsReady (distant 3 9) (λ i. 0) 0 low_later
  pub patient : IsPatient (distant 3 8) (paces 0) 0 low_later × IsPatient (distant 3 9) (paces 0) 0 low_later
  pub stopping_early_later : IsStopping (distant 3 8) paces 1 all (λ i. 0) 0 low_later (too_early_later ++ low_later)
  pub stopping_later : IsStopping (distant 3 9) paces 1 all (λ i. 0) 0 low_later (in_time_later ++ low_later)
  -- FSD is accepted no sooner than 2 seconds after the beginning
  pub accepted_by_later : accepted_in primary (paces 0) true ≡ 2
  pub begun_at_later : clock (begun (monitor_of (distant 3 9) 0) (seen_at (distant 3 9) 0 (unforced_later ++ low_later))) ≡ 7
  pub not_yet_forced_later : is_forced (distant 3 9) 0 (unforced_later ++ low_later) ≡ false
  pub at_that_time_later : clock (seen_at (distant 3 9) 0 (unforced_later ++ low_later)) ≡ 9
  -- HOSTSYNC has to be 9
  pub needed_later : host_sync_for (monitor_of (distant 3 9) 0) (paces 0) true (monitor_of (distant 3 9) 1) (paces 1) 1 ≡ 9
  pub goes_early_later : has_ended (monitor_of (distant 3 8) 0) (seen_at (distant 3 8) 0 (too_early_later ++ low_later)) ≡ true
  pub still_up_later : is_stopped (distant 3 8) 1 (too_early_later ++ low_later) ≡ false
  pub goes_in_time_later : has_ended (monitor_of (distant 3 9) 0) (seen_at (distant 3 9) 0 (in_time_later ++ low_later)) ≡ true
  pub is_down_later : is_stopped (distant 3 9) 1 (in_time_later ++ low_later) ≡ true
