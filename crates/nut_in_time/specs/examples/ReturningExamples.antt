-- A machine whose link comes back while its UPS is on a low battery, computed from the definitions: it stops as late as it
-- may.
use Rattle.std.specs.Prelude.{◌≡◌, ℕ, zero, suc, ◌+◌, List, [], ◌∷◌, ◌++◌, codes, reverse, true, false}
use Rattle.nut_server_spec.specs.Content.{past}
use Rattle.nut_monitor_spec.specs.Trace.{begun, clock, has_begun}
use Rattle.nut_fleet.specs.Schedule.{Step, Accept, Call, CutMonitor, Link}
use Rattle.nut_fleet.specs.Shown.{logins}
use Rattle.nut_fleet.specs.World.{monitor_of, world}
use Rattle.nut_fleet.specs.Fleet.{IsSetup}
use Rattle.nut_fleet.specs.examples.Examples.{alone, comes, live, rounds, says}
use Rattle.nut_in_time.specs.Pace.{IsSteady, seen_at}
use Rattle.nut_in_time.specs.InTime.{is_low, is_stopped, to_halted}
use Rattle.nut_in_time.specs.Returning.{IsReturning, turn_again}
use Rattle.nut_in_time.specs.examples.Examples.{all, pace, seconds}

-- The primary has read that its UPS is on line. Then its link is lost, as a switch restarts, and the battery gets low. A
-- second later it calls again, and the server accepts, which still has the old end.
abbrev pub back : List Step
back =
    reverse (live (codes "OL") ++ Link 0 0 ∷ rounds 0 5 ++ CutMonitor 0 0 ∷ says (codes "OB LB") ∷ seconds 0 1 ++ Call 0 0 ∷ comes ∷ Accept 0 0 2 ∷ [])

-- Each of the n answers that follow takes 2 seconds, from this time on.
abbrev pub slowly : ℕ → ℕ → List Step
slowly time zero = []
slowly time (suc n) = seconds time 2 ++ rounds 0 1 ++ slowly (time + 2) n

-- Four answers open the link. The status is asked for, and its answer waits for 2 seconds.
abbrev pub opened : List Step
opened = reverse (slowly 1 4 ++ seconds 9 2)

-- That is read, and then the machine hears nothing more.
abbrev pub again : ℕ → List Step
again n = reverse (slowly 1 5 ++ seconds 11 n)

pub record ReturningExamples : Type 0 where
  pub setup : IsSetup alone
  -- the premises hold, and the bounds are reached, though the server counts two logins
  pub counted : logins alone.server (past alone.server (world alone (again 0 ++ back)).server) (codes "su700") ≡ 1 ∷ 2 ∷ []
  pub returns : IsReturning alone pace 0 is_low all back (again 0 ++ back)
  pub steady : IsSteady alone pace 0 back (again 21 ++ back)
  pub started : clock (seen_at alone 0 back) ≡ 1
  pub takes : turn_again (monitor_of alone 0) pace ≡ 8
  pub at_last : clock (seen_at alone 0 (opened ++ back)) ≡ 11
  pub not_yet : has_begun (monitor_of alone 0) (seen_at alone 0 (opened ++ back)) ≡ false
  pub begun_at : clock (begun (monitor_of alone 0) (seen_at alone 0 (again 0 ++ back))) ≡ 11
  pub to_the_end : to_halted (monitor_of alone 0) pace ≡ 21
  pub still_up : is_stopped alone 0 (again 20 ++ back) ≡ false
  pub is_down : is_stopped alone 0 (again 21 ++ back) ≡ true
  pub halted_at : clock (seen_at alone 0 (again 21 ++ back)) ≡ 32
