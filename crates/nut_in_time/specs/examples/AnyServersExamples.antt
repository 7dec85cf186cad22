-- A machine with a UPS at each of two servers, computed from the definitions: it stops as late as it may.
use Rattle.std.specs.Prelude.{◌≡◌, ℕ, zero, suc, ◌-◌, List, [], ◌∷◌, ◌++◌, codes, length, take, true, false}
use Rattle.nut_monitor_spec.specs.declared.Phase.TheVariants.{Final, Halted}
use Rattle.nut_monitor_spec.specs.Configuration.{Configuration}
use Rattle.nut_monitor_spec.specs.Event.{Event}
use Rattle.nut_monitor_spec.specs.Trace.{begun, clock, has_begun, phase, trace}
use Rattle.nut_monitor_spec.specs.examples.Examples.{Move, at_moment, opens, played, run, shows, shows_other, two_primaries}
use Rattle.nut_in_time.specs.AnyServers.{IsTold}
use Rattle.nut_in_time.specs.InTime.{is_low, seen_by, to_halted}
use Rattle.nut_in_time.specs.examples.Examples.{all, pace}

-- The primary of both UPSes has read that they are on line.
abbrev pub both_read : List Event
both_read = run two_primaries (at_moment 0 ∷ opens true 0 ++ shows (codes "OL") ∷ opens true 1 ++ shows_other (codes "OL") ∷ [])

-- the events of these moves, after the first ones
abbrev pub newest_of : Configuration → List Move → List Event → List Event
newest_of configuration moves first = take (length (played configuration moves first) - length first) (played configuration moves first)

abbrev pub since_then : List Move → List Event
since_then moves = newest_of two_primaries moves both_read

-- the moments of n seconds from this time
abbrev pub moments : ℕ → ℕ → List Move
moments time zero = []
moments time (suc n) = at_moment (suc time) ∷ moments (suc time) n

-- It asks again at 5 seconds. Each answer takes 2 seconds, and says that the battery is low.
abbrev pub one_is_low : List Move
one_is_low = moments 0 7 ++ shows (codes "OB LB") ∷ []

abbrev pub both_are_low : List Move
both_are_low = one_is_low ++ shows_other (codes "OB LB") ∷ []

pub record AnyServersExamples : Type 0 where
  pub told : IsTold two_primaries pace is_low all both_read (since_then both_are_low)
  pub known_by : seen_by two_primaries pace (clock (trace two_primaries both_read)) ≡ 7
  pub at_last : clock (trace two_primaries (since_then one_is_low ++ both_read)) ≡ 7
  pub not_yet : has_begun two_primaries (trace two_primaries (since_then one_is_low ++ both_read)) ≡ false
  pub begun_at : clock (begun two_primaries (trace two_primaries (since_then both_are_low ++ both_read))) ≡ 7
  pub to_the_end : to_halted two_primaries pace ≡ 21
  pub still_up : phase two_primaries (trace two_primaries (since_then (both_are_low ++ moments 7 20) ++ both_read)) ≡ Final
  pub halted : phase two_primaries (trace two_primaries (since_then (both_are_low ++ moments 7 21) ++ both_read)) ≡ Halted true
