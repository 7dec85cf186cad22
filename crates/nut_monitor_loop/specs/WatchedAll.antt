-- A list of events that was watched until the machine had to be halted, or to its end.
use Rattle.std.specs.Prelude.{◌≡◌, ◌⊎◌, ◌++◌, ℕ, true, List, [], map, None}
use Rattle.nut_monitor_spec.specs.declared.Phase.{Phase}
use Rattle.nut_monitor_spec.specs.Configuration.{Configuration}
use Rattle.nut_monitor_spec.specs.Trace.{trace, sent, notices}
use Rattle.nut_monitor_spec.specs.Content.{Content}
use Rattle.nut_monitor_spec.specs.Acceptance.{Tells}
use Rattle.nut_monitor_spec.specs.Decision.{is_halted}
use Rattle.nut_monitor_loop.specs.Watched.{Step, entries_of, history_of, Told, taken, handed}
use Rattle.nut_monitor_loop.specs.Memory.{MemoryState, event_of, given_in}

-- The first of the events that `old` had left were given in order, and `new` has the others left: none, unless the
-- machine has to be halted. What was given, accepted, closed and handed over leads to a history whose content the monitor
-- has. The bytes taken of each link since it was made are those that were sent on it. The notices handed over are those
-- of the history, in order.
pub record WatchedAll (first : Configuration) (old new : MemoryState) (s : Content) (phase : Phase) : Type 0 where
  pub steps : List Step
  pub tells : new.log ≡ entries_of steps
  pub told : Told first steps None
  pub holds : Tells first (history_of steps) s
  pub sent_is : (i : ℕ) → taken i steps ≡ sent first i (trace first (history_of steps))
  pub notices_are : handed new.log ≡ notices (trace first (history_of steps))
  pub each : map event_of old.left ≡ given_in new.log ++ map event_of new.left
  pub ends : (is_halted phase ≡ true) ⊎ (new.left ≡ [])
