-- Two UPSes at one server, and a primary that needs both, computed from the definitions: once one of them is on a low
-- battery it forces the shutdown of both, and a machine that needs the other one stops, as late as it may.
use Rattle.std.specs.Prelude.{◌≡◌, ℕ, zero, suc, List, [], ◌∷◌, ◌++◌, codes, reverse, true, false}
use Rattle.nut_monitor_spec.specs.Configuration.{Configuration, line_in}
use Rattle.nut_monitor_spec.specs.Trace.{begun, clock, has_ended}
use Rattle.nut_fleet.specs.Schedule.{Step, MonitorClock, Up, Driver, Link, Out, Reach, Back, Land}
use Rattle.nut_fleet.specs.World.{Setup, monitor_of}
use Rattle.nut_fleet.specs.Fleet.{IsSetup}
use Rattle.nut_fleet.specs.examples.Examples.{secondary, live, rounds, says}
use Rattle.nut_in_time.specs.Pace.{Pace, seen_at}
use Rattle.nut_in_time.specs.InTime.{is_stopped}
use Rattle.nut_in_time.specs.Room.{Follows, IsReady, IsRoom, IsStopping, accepted_in, are_forced, host_sync_for, is_forced}
use Rattle.nut_in_time.specs.examples.Examples.{rounds_too, says_too, two}
use Rattle.nut_in_time.specs.examples.PaceExamples.{only_first}
use Rattle.nut_in_time.specs.examples.RoomPaceExamples.{answered, quick, seconds, within}

-- A primary of two UPSes, with MINSUPPLIES 2 and this HOSTSYNC, and another machine, which names the second UPS alone.
-- POLLFREQ and FINALDELAY are 1.
abbrev pub needs_second : Configuration
needs_second = record (quick secondary) { lines = record (line_in secondary.lines 0) { ups = codes "su800" } ∷ [] }

abbrev pub both : ℕ → Setup
both host_sync = record two {
  monitors = record (quick (monitor_of two 0)) { min_supplies = 2; host_sync = host_sync } ∷ needs_second ∷ [];
}

-- An answer takes 2 seconds at most on the primary, and one on the other machine.
abbrev pub unequal : ℕ → Pace
unequal zero = within 2
unequal (suc m) = within 1

abbrev pub numbers : ℕ → ℕ
numbers i = i

-- Both UPSes are on line; then the first one is on a low battery.
abbrev pub one_is_low : List Step
one_is_low = reverse (live (codes "OL") ++ Up 1 ∷ says_too (codes "OL") ∷ Driver 1 (codes "DATAOK") ∷ Driver 1 (codes "DUMPDONE")
    ∷ Link 0 0 ∷ rounds 0 5 ++ Link 0 1 ∷ rounds_too 5 ++ Link 1 0 ∷ rounds 1 4 ++ says (codes "OB LB") ∷ [])

-- The primary asks on both links at 1, and the answer on the first comes at once: the shutdown begins. That on the second
-- takes 2 seconds, and so does FSD there. A query of the other machine is answered before that.
abbrev pub one_forced : List Step
one_forced = reverse (MonitorClock 0 1 ∷ rounds 0 1 ++ MonitorClock 1 1 ∷ seconds 1 1 ++ rounds 1 1
    ++ MonitorClock 0 3 ∷ rounds 0 1 ++ rounds_too 1 ++ MonitorClock 1 3 ∷ rounds 1 1 ++ seconds 3 1 ++ rounds 1 1
    ++ MonitorClock 0 5 ∷ rounds 0 1 ++ MonitorClock 1 5 ∷ answered)

-- The primary's second FSD is accepted. The other machine reads the answer that was on its way at 6, and FSD at 7.
abbrev pub other_reads : List Step
other_reads = Out 0 1 512 ∷ Reach 0 1 512 ∷ Back 0 1 512 ∷ Land 0 1 512 ∷ seconds 5 1 ++ Land 1 0 512
    ∷ MonitorClock 0 7 ∷ rounds 0 1 ++ rounds_too 1 ++ MonitorClock 1 7 ∷ rounds 1 1

-- With HOSTSYNC 6 the primary leaves Forcing at 8, while the other machine's clock is at 7.
abbrev pub leaves_early : List Step
leaves_early = reverse (other_reads ++ MonitorClock 0 8 ∷ []) ++ one_forced

-- With HOSTSYNC 7 it leaves Forcing at 9.
abbrev pub leaves_in_time : List Step
leaves_in_time = reverse (other_reads ++ seconds 7 1 ++ MonitorClock 0 9 ∷ []) ++ one_forced

pub record SeveralExamples : Type 0 where
  -- the room fulfils the premises
  pub setups : IsSetup (both 6) × IsSetup (both 7)
  pub rooms : IsRoom (both 6) only_first numbers 0 × IsRoom (both 7) only_first numbers 0
  pub following : Follows (both 6) 0 1 × Follows (both 7) 0 1
  pub ready : IsReady (both 6) numbers 0 one_is_low × IsReady (both 7) numbers 0 one_is_low
  pub stopping_early : IsStopping (both 6) unequal 1 only_first numbers 0 one_is_low (leaves_early ++ one_is_low)
  pub stopping : IsStopping (both 7) unequal 1 only_first numbers 0 one_is_low (leaves_in_time ++ one_is_low)
  -- FSD is accepted for the second UPS no sooner than 4 seconds after the beginning
  pub accepted_by : accepted_in (monitor_of (both 7) 0) (unequal 0) false ≡ 4
  pub begun_at : clock (begun (monitor_of (both 7) 0) (seen_at (both 7) 0 (one_forced ++ one_is_low))) ≡ 1
  pub first_forced : is_forced (both 7) 0 (one_forced ++ one_is_low) ≡ true
  pub not_yet_forced : are_forced (both 7) numbers 0 (one_forced ++ one_is_low) ≡ false
  pub at_that_time : clock (seen_at (both 7) 0 (one_forced ++ one_is_low)) ≡ 5
  -- HOSTSYNC has to be 7: with a second less the primary leaves Forcing before the other machine is in Halted
  pub needed : host_sync_for (monitor_of (both 7) 0) (unequal 0) false (monitor_of (both 7) 1) (unequal 1) 1 ≡ 7
  pub goes_early : has_ended (monitor_of (both 6) 0) (seen_at (both 6) 0 (leaves_early ++ one_is_low)) ≡ true
  pub still_up : is_stopped (both 6) 1 (leaves_early ++ one_is_low) ≡ false
  pub goes_in_time : has_ended (monitor_of (both 7) 0) (seen_at (both 7) 0 (leaves_in_time ++ one_is_low)) ≡ true
  pub is_down : is_stopped (both 7) 1 (leaves_in_time ++ one_is_low) ≡ true
