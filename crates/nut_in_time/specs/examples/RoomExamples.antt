-- A room of two machines that stops as late as it may, computed from the definitions.
use Rattle.std.specs.Prelude.{◌≡◌, ℕ, List, [], ◌∷◌, ◌++◌, codes, reverse, true, false}
use Rattle.nut_monitor_spec.specs.Trace.{clock, has_ended}
use Rattle.nut_fleet.specs.Schedule.{Step, MonitorClock, Link}
use Rattle.nut_fleet.specs.World.{Setup, monitor_of}
use Rattle.nut_fleet.specs.Fleet.{IsSetup}
use Rattle.nut_fleet.specs.examples.Examples.{pair, primary, secondary, comes, live, logs_in, rereads, rounds, says}
use Rattle.nut_in_time.specs.Pace.{Pace, seen_at}
use Rattle.nut_in_time.specs.InTime.{halted_in, is_stopped}
use Rattle.nut_in_time.specs.Room.{Follows, IsReady, IsRoom, IsStopping, forced_in, host_sync_for, is_forced, other_halted_in}
use Rattle.nut_in_time.specs.examples.Examples.{all}

-- a query is answered in the second in which it is put
abbrev pub at_once : Pace
at_once = record { delay = 0; skip = 0 }

-- A primary and another machine, both with POLLFREQ 1 and FINALDELAY 1; the primary has this HOSTSYNC.
abbrev pub room : ℕ → Setup
room host_sync = record pair {
  monitors = record primary { poll_freq = 1; final_delay = 1; host_sync = host_sync }
      ∷ record secondary { poll_freq = 1; final_delay = 1 } ∷ [];
}

-- Both are logged in, and so is another client, which takes no answer; the server reads its files again. The clock of the
-- other machine is a second ahead. Then the battery is low.
abbrev pub low : List Step
low = reverse (live (codes "OL") ++ comes ∷ logs_in 1 ∷ Link 0 0 ∷ rounds 0 5 ++ rereads ∷ MonitorClock 1 1 ∷ Link 1 0 ∷ rounds 1 4 ++ says (codes "OB LB") ∷ [])

-- The other machine reads that, and a second later again. Then the primary reads it, whose query is older.
abbrev pub unforced : List Step
unforced = reverse (MonitorClock 1 2 ∷ rounds 1 1 ++ MonitorClock 0 1 ∷ MonitorClock 1 3 ∷ rounds 1 1 ++ rounds 0 1)

-- The primary forces the shutdown and counts the logins. The other machine reads that the shutdown was forced.
abbrev pub known : List Step
known = reverse (rounds 0 2 ++ MonitorClock 0 2 ∷ rounds 0 1 ++ MonitorClock 1 4 ∷ rounds 1 1) ++ unforced

-- With HOSTSYNC 1 the primary leaves Forcing then.
abbrev pub too_early : List Step
too_early = MonitorClock 0 3 ∷ known

-- With HOSTSYNC 2 it leaves Forcing a second later.
abbrev pub in_time : List Step
in_time = reverse (MonitorClock 0 3 ∷ rounds 0 1 ++ MonitorClock 1 5 ∷ MonitorClock 0 4 ∷ []) ++ known

abbrev pub over : List Step
over = reverse (MonitorClock 1 6 ∷ MonitorClock 0 5 ∷ []) ++ in_time

pub record RoomExamples : Type 0 where
  -- both rooms fulfil the premises of the law
  pub setups : IsSetup (room 1) × IsSetup (room 2)
  pub rooms : IsRoom (room 1) all (λ i. 0) 0 × IsRoom (room 2) all (λ i. 0) 0
  pub following : Follows (room 1) 0 1 × Follows (room 2) 0 1
  pub ready : IsReady (room 1) (λ i. 0) 0 low × IsReady (room 2) (λ i. 0) 0 low
  pub stopping_early : IsStopping (room 1) (λ m. at_once) 1 all (λ i. 0) 0 low (too_early ++ low)
  pub stopping : IsStopping (room 2) (λ m. at_once) 1 all (λ i. 0) 0 low (over ++ low)
  -- HOSTSYNC has to be 2: with a second less the primary leaves Forcing before the other machine is in Halted
  pub needed : host_sync_for (monitor_of (room 2) 0) at_once false (monitor_of (room 2) 1) at_once 1 ≡ 2
  pub goes_early : has_ended (monitor_of (room 1) 0) (seen_at (room 1) 0 (too_early ++ low)) ≡ true
  pub still_up : is_stopped (room 1) 1 (too_early ++ low) ≡ false
  pub goes_in_time : has_ended (monitor_of (room 2) 0) (seen_at (room 2) 0 (in_time ++ low)) ≡ true
  pub is_down : is_stopped (room 2) 1 (in_time ++ low) ≡ true
  -- and each bound is reached
  pub forced_by : forced_in (monitor_of (room 2) 0) at_once ≡ 1
  pub not_yet_forced : is_forced (room 2) 0 (unforced ++ low) ≡ false
  pub at_that_time : clock (seen_at (room 2) 0 (unforced ++ low)) ≡ 1
  pub other_by : other_halted_in (monitor_of (room 2) 0) at_once (monitor_of (room 2) 1) at_once 1 ≡ 4
  pub other_started : clock (seen_at (room 2) 1 low) ≡ 1
  pub other_up : is_stopped (room 2) 1 (known ++ low) ≡ false
  pub other_at : clock (seen_at (room 2) 1 (known ++ low)) ≡ 4
  pub primary_by : halted_in (monitor_of (room 2) 0) at_once ≡ 5
  pub primary_up : is_stopped (room 2) 0 (in_time ++ low) ≡ false
  pub primary_at : clock (seen_at (room 2) 0 (in_time ++ low)) ≡ 4
  pub all_down : is_stopped (room 2) 0 (over ++ low) ≡ true
