-- Machines with more UPSes than they need.
use Rattle.std.proofs.Common.{◌≡◌, ℕ, zero, suc, ◌<◌, ◌≤◌, ◌==◌, List, [], ◌∷◌, length, Bool, true, refl, subst, sym, arith}
use Rattle.std.proofs.lemmas.Bool.{eqb-true, eq-eqb}
use Rattle.nut_monitor_spec.specs.Configuration.{Line, line_in}
use Rattle.nut_monitor_spec.specs.Decision.{power_where}
use Rattle.nut_fleet.specs.Schedule.{Step}
use Rattle.nut_fleet.specs.World.{Setup, monitor_of}
use Rattle.nut_fleet.specs.Fleet.{IsSetup}
use Rattle.nut_fleet.proofs.Sound.{IsLawful}
use Rattle.nut_in_time.specs.Pace.{Pace, IsWatched}
use Rattle.nut_in_time.specs.InTime.{is_low, IsFailing}
use Rattle.nut_in_time.specs.InVain.{is_bearable}
use Rattle.nut_in_time.specs.Redundant.{IsRedundant, OneIsEnough, AllAreLow, LastCounts}
use Rattle.nut_in_time.proofs.Bearing.{none-begins_later}
use Rattle.nut_in_time.proofs.Calming.{machines-halt_in_time}
use Rattle.nut_in_time.proofs.Stopping.{none-power}

-- one line supplies no more than all lines that pass
power-one : (i : ℕ) (lines : List Line) (test : ℕ → Bool) → i < length lines → test i ≡ true → (line_in lines i).power ≤ power_where test lines
power-one i [] test within is = absurd (omega (arith, within))
power-one zero (line ∷ lines) test within is = rw is (omega arith)
power-one (suc i) (line ∷ lines) test within is =
    let rest = power-one i lines (λ k. test (suc k)) (omega (arith, within)) is in omega (arith, rest)

module _ (setup : Setup) (law : IsLawful setup.server) (fine : IsSetup setup) where
  pub one-is_enough : (schedule : List Step) → OneIsEnough setup schedule
  one-is_enough schedule pace m i start redundant there front steady watched patient over =
      none-begins_later setup law fine schedule pace m (λ j. j == i) start
      (record {
        front = front;
        steady = steady;
        lines = λ j within is. subst (λ k. IsWatched setup pace m k is_bearable start schedule) (sym (eqb-true j i is)) watched;
        enough =
            let one = power-one i (monitor_of setup m).lines (λ j. j == i) there (eq-eqb i i refl) in
            let most = redundant.each i there in
            omega (arith, one, most);
        patient = patient;
      }) over

  fails : (pace : Pace) (m : ℕ) (start middle : List Step) → IsRedundant (monitor_of setup m) → AllAreLow setup pace m start middle →
      IsFailing setup pace m is_low (λ i. true) start middle
  fails pace m start middle redundant low = record {
    front = low.front;
    steady = low.steady;
    needs = record { one = 0; there = redundant.there; passes = refl; short = let none = none-power (monitor_of setup m).lines in let some = redundant.some in omega (arith, none, some) };
    lines = λ i within is. low.lines i within;
  }

  pub last-counts : (pace : Pace) (m : ℕ) (start middle schedule : List Step) → LastCounts setup pace m start middle schedule
  last-counts pace m start middle schedule =
      let halt = machines-halt_in_time setup law fine pace m (λ i. true) start middle schedule in
      record {
        primary = λ redundant within low primaries until. halt.primary within (fails pace m start middle redundant low) (λ i there is. primaries i there) until;
        secondary = λ known redundant within low has until. halt.secondary known within (fails pace m start middle redundant low) (λ i there is. has i there) until;
      }
