-- A machine with a UPS at each of two servers, which is the primary of one, and a machine that needs that one, computed from the
-- definitions: FSD is accepted as late as it may, and with a HOSTSYNC a second shorter the primary leaves Forcing first.
use Rattle.std.specs.Prelude.{◌≡◌, ℕ, ◌+◌, ◌-◌, List, [], ◌∷◌, ◌++◌, codes, true, false}
use Rattle.nut_monitor_spec.specs.Configuration.{Configuration, with_defaults}
use Rattle.nut_monitor_spec.specs.Decision.{is_halted}
use Rattle.nut_monitor_spec.specs.Event.{Event}
use Rattle.nut_monitor_spec.specs.Trace.{Entry, alone, begun, clock, ended, forced, has_ended, phase, trace}
use Rattle.nut_monitor_spec.specs.examples.Examples.{Move, Says, at_moment, opens, played, run, secondary_room, shows, shows_other, su700, su900}
use Rattle.nut_in_time.specs.AnyServers.{IsTold}
use Rattle.nut_in_time.specs.InTime.{has_fsd, reads_in, to_halted}
use Rattle.nut_in_time.specs.RoomAsTold.{IsHeeded}
use Rattle.nut_in_time.specs.examples.AnyServersExamples.{moments, newest_of}
use Rattle.nut_in_time.specs.examples.Examples.{all}
use Rattle.nut_in_time.specs.examples.RoomPaceExamples.{quick, within}

-- ---- the primary of the second server's UPS, with MINSUPPLIES 2 and this HOSTSYNC; POLLFREQ and FINALDELAY are 1

abbrev pub leading : ℕ → Configuration
leading host_sync = record (quick (with_defaults (su700 false ∷ su900 true ∷ []))) { min_supplies = 2; host_sync = host_sync }

-- it has asked the first server, and read that the other UPS is on line
abbrev pub both_asked : ℕ → List Event
both_asked host_sync = run (leading host_sync) (at_moment 0 ∷ opens false 0 ++ opens true 1 ++ shows_other (codes "OL") ∷ [])

-- It asks the second server again at 1. Then it reads that the first UPS was forced: the shutdown begins. The second server
-- takes 2 seconds for the answer to that query, and then for FSD.
abbrev pub asks_fsd : List Move
asks_fsd = at_moment 1 ∷ shows (codes "FSD") ∷ moments 1 2 ++ shows_other (codes "OL") ∷ moments 3 2

-- FSD is accepted there, and n more seconds pass
abbrev pub leader : ℕ → ℕ → List Entry
leader host_sync n =
    trace (leading host_sync) (played (leading host_sync) (asks_fsd ++ Says 1 (codes "OK FSD-SET") ∷ moments 5 n) (both_asked host_sync))

-- ---- the other machine, by whose clock that is at 5

abbrev pub following : Configuration
following = quick secondary_room

-- It has just asked for the status,
abbrev pub has_asked : List Event
has_asked = run following (at_moment 0 ∷ opens false 0 ++ shows (codes "OL") ∷ at_moment 5 ∷ [])

-- and reads a second later that the UPS is on line. It asks again, and reads FSD another second later.
abbrev pub reads_fsd : List Move
reads_fsd = at_moment 6 ∷ shows (codes "OL") ∷ at_moment 7 ∷ shows (codes "FSD OL") ∷ []

abbrev pub follower : ℕ → List Entry
follower n = trace following (played following (reads_fsd ++ moments 7 n) has_asked)

pub record RoomAsToldExamples : Type 0 where
  -- 4 seconds after the beginning FSD isn't accepted
  pub heeded : IsHeeded (leading 7) (within 2) (both_asked 7) (newest_of (leading 7) asks_fsd (both_asked 7))
  pub begun_at : clock (begun (leading 7) (trace (leading 7) (played (leading 7) asks_fsd (both_asked 7)))) ≡ 1
  pub at_last : clock (trace (leading 7) (played (leading 7) asks_fsd (both_asked 7))) ≡ 5
  pub not_yet_forced : forced 1 (trace (leading 7) (played (leading 7) asks_fsd (both_asked 7))) ≡ false
  pub then_forced : forced 1 (leader 7 0) ≡ true
  -- the other machine's clock goes by a second less: HOSTSYNC has to be 7
  pub told : IsTold following (within 1) has_fsd all has_asked (newest_of following reads_fsd has_asked)
  pub needed : 4 + 1 + reads_in following (within 1) + (to_halted following (within 1) - 1) ≡ 7
  pub goes_early : has_ended (leading 6) (leader 6 3) ≡ true
  pub not_alone : alone (leading 6) (ended (leading 6) (leader 6 3)) ≡ false
  pub still_up : is_halted (phase following (follower 0)) ≡ false
  pub goes_in_time : has_ended (leading 7) (leader 7 4) ≡ true
  pub is_down : is_halted (phase following (follower 1)) ≡ true
