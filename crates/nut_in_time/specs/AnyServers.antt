-- A machine whose UPSes may be at several servers: what it does in time, by what it reads, whatever serves it.
use Rattle.std.specs.Prelude.{ℕ, suc, ◌≡◌, ◌+◌, ◌<◌, ◌≤◌, Bool, true, List, [], ◌∷◌, ◌++◌, length, Some}
use Rattle.nut_monitor_spec.specs.declared.Phase.TheVariants.{Halted}
use Rattle.nut_monitor_spec.specs.declared.Query.TheVariants.{Status}
use Rattle.nut_monitor_spec.specs.Acceptance.{IsAccepted}
use Rattle.nut_monitor_spec.specs.Configuration.{Configuration, has_primary, line_in}
use Rattle.nut_monitor_spec.specs.Event.{Event}
use Rattle.nut_monitor_spec.specs.Query.{status_in}
use Rattle.nut_monitor_spec.specs.Trace.{Answer, Entry, clock, has_begun, linked, phase, trace}
use Rattle.nut_in_time.specs.Pace.{Pace, IsPolled, IsPrompt, Says}
use Rattle.nut_in_time.specs.InTime.{BeginsBy, IsKnown, Needs, has_fsd, is_low, secondary_by, seen_by, to_halted}

-- This holds of a monitor's past at each time since the events `first`, after which it had `newest`.
abbrev pub Always : Configuration → (List Entry → Type 0) → List Event → List Event → Type 0
Always configuration Holds first [] = Holds (trace configuration first)
Always configuration Holds first (event ∷ newest) =
    Holds (trace configuration (event ∷ (newest ++ first))) × Always configuration Holds first newest

-- None of the newest events moves the clock by more than `skip` + 1 seconds.
abbrev pub IsEven : Configuration → Pace → List Event → List Event → Type 0
IsEven configuration pace first [] = Unit {0}
IsEven configuration pace first (event ∷ newest) =
    (clock (trace configuration (event ∷ (newest ++ first))) ≤ clock (trace configuration (newest ++ first)) + suc pace.skip)
    × IsEven configuration pace first newest

-- Each answer to a status query of link i that was put after the n-th event is a status that passes the test.
abbrev pub EachGiven : ℕ → ℕ → (List (List ℕ) → Bool) → List Entry → Type 0
EachGiven i n Words [] = Unit {0}
EachGiven i n Words (entry ∷ past) =
    ((a : Answer) → entry.answer ≡ Some a → a.link ≡ i → a.asked.query ≡ Status → n < a.asked.event →
    Says Words (status_in a.asked.query a.outcome)) × EachGiven i n Words past

-- Since `first` the links of the lines `low`, which had been opened, are up and keep pace, and each status that was asked for
-- since then passes the test. The machine needs their UPSes.
pub record IsTold (configuration : Configuration) (pace : Pace) (Words : List (List ℕ) → Bool) (low : ℕ → Bool)
    (first newest : List Event) : Type 0 where
  pub accepted : IsAccepted configuration (newest ++ first)
  pub even : IsEven configuration pace first newest
  pub needs : Needs configuration low
  pub lines : (i : ℕ) → i < length configuration.lines → low i ≡ true → IsPolled i (trace configuration first)
      × Always configuration (λ past. (linked i past ≡ true) × IsPrompt pace i past) first newest
      × EachGiven i (length first) Words (trace configuration (newest ++ first))

-- By the end of `told` the shutdown has begun if the clock is past `by`, and it began no later than at `by` + `more`. Then the
-- machine is in Halted `to_halted` after that time, whatever comes next.
abbrev pub StopsBy : Configuration → Pace → ℕ → ℕ → List Event → List Event → Type 0
StopsBy configuration pace by more told later = BeginsBy configuration by (by + more) (trace configuration told)
    × (has_begun configuration (trace configuration told) ≡ true → IsEven configuration pace told later →
    by + more + to_halted configuration pace ≤ clock (trace configuration (later ++ told)) →
    phase configuration (trace configuration (later ++ told)) ≡ Halted (has_primary configuration.lines))

-- A machine that is told so stops by such a time, if this holds of the lines `low` at `first`.
abbrev pub StopsAsTold : Configuration → Pace → (List (List ℕ) → Bool) → (ℕ → Bool) → (ℕ → List Entry → Type 0) → (ℕ → ℕ) → ℕ → Type 0
StopsAsTold configuration pace Test low Has by more = (first newest later : List Event) → IsTold configuration pace Test low first newest →
    ((i : ℕ) → i < length configuration.lines → low i ≡ true → Has i (trace configuration first)) →
    StopsBy configuration pace (by (clock (trace configuration first))) more (newest ++ first) later

-- the times for one server: on a low battery, if it is their primary and in any case, and once they have FSD
pub record MachinesStopAsTold (configuration : Configuration) (pace : Pace) (low : ℕ → Bool) : Type 0 where
  pub primaries :
      StopsAsTold configuration pace is_low low (λ i past. (line_in configuration.lines i).primary ≡ true) (seen_by configuration pace) 0
  pub secondaries : (known : Bool) →
      StopsAsTold configuration pace is_low low (λ i past. IsKnown known past i) (secondary_by configuration pace known) (suc pace.skip)
  pub forced : StopsAsTold configuration pace has_fsd low (λ i past. Unit {0}) (seen_by configuration pace) 0
