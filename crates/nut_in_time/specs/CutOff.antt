-- A machine that hears nothing more of some UPSes, or only that these are low or forced: what it does, whatever serves it.
use Rattle.std.specs.Prelude.{ℕ, suc, ◌≡◌, ◌⊎◌, ◌+◌, ◌<◌, ◌≤◌, ◌&&◌, ◌||◌, max, if◌then◌else◌, Bool, true, false, not, List, ◌++◌, length, codes, Some}
use Rattle.nut_monitor_spec.specs.Acceptance.{IsAccepted}
use Rattle.nut_monitor_spec.specs.Configuration.{Configuration, Line, line_in}
use Rattle.nut_monitor_spec.specs.Decision.{power_where}
use Rattle.nut_monitor_spec.specs.Event.{Event}
use Rattle.nut_monitor_spec.specs.Query.{has}
use Rattle.nut_monitor_spec.specs.Trace.{Asked, at_status, clock, has_begun, linked, outstanding, polled, status, trace}
use Rattle.nut_fleet.specs.Schedule.{Step, IsFront}
use Rattle.nut_fleet.specs.World.{Setup, line_of, monitor_of, world}
use Rattle.nut_in_time.specs.Pace.{Pace, FromOn, Says, seen_at, shown_at}
use Rattle.nut_in_time.specs.InTime.{Needs, has_fsd, is_low}
use Rattle.nut_in_time.specs.AnyServers.{Always, IsEven, StopsBy}

-- Since `first` each status that is read of the UPS of line i, if any, passes the test: the last one is that of `first`, or passes.
abbrev pub HearsOnly : Configuration → (List (List ℕ) → Bool) → List Event → List Event → ℕ → Type 0
HearsOnly configuration Words first newest i = Always configuration
    (λ past. (at_status i past ≡ at_status i (trace configuration first)) ⊎ Says Words (status i past)) first newest

-- While the link is down, none is read.
abbrev pub NothingIsHeard : Configuration → Type 0
NothingIsHeard configuration = (i : ℕ) (Words : List (List ℕ) → Bool) (first newest : List Event) →
    i < length configuration.lines → IsAccepted configuration (newest ++ first) →
    Always configuration (λ past. linked i past ≡ false) first newest → HearsOnly configuration Words first newest i

-- Since `start` each status of the UPS of line i that a room's server shows passes the test. None may be shown, as when its
-- driver is gone or its data are stale.
abbrev pub ShowsOnly : (List (List ℕ) → Bool) → Setup → ℕ → List Step → List Step → ℕ → Type 0
ShowsOnly Words setup m start schedule i = FromOn start schedule (λ early.
    (words : List (List ℕ)) → shown_at setup early (line_of setup m i).ups ≡ Some words → Words words ≡ true)

-- Then the newest events, those since `middle`, bring only such ones, if no query of before `start` waits for its answer at `middle`.
abbrev pub OnlyShownIsHeard : Setup → List Step → Type 0
OnlyShownIsHeard setup schedule = (m i : ℕ) (Words : List (List ℕ) → Bool) (start middle : List Step) (newest : List Event) →
    i < length (monitor_of setup m).lines → IsFront start middle → IsFront middle schedule → ShowsOnly Words setup m start schedule i →
    ((asked : Asked) → outstanding i (seen_at setup m middle) ≡ Some asked → length (seen_at setup m start) < asked.event) →
    (world setup schedule).monitor m ≡ newest ++ (world setup middle).monitor m →
    HearsOnly (monitor_of setup m) Words ((world setup middle).monitor m) newest i

-- the status has OB
abbrev pub is_on_battery : List (List ℕ) → Bool
is_on_battery words = has (codes "OB") words

-- What a machine may still hear of such a UPS: FSD, or that it is low, if it is its primary. If it waits for HOSTSYNC, in
-- any case that it is low.
abbrev pub calls : Bool → Line → List (List ℕ) → Bool
calls waits line words = if waits then is_low words else has_fsd words || (line.primary && is_low words)

-- how long after the last other status its shutdown has begun
abbrev pub begins_in : Configuration → Bool → ℕ
begins_in configuration waits = if waits then max configuration.dead_time configuration.host_sync else configuration.dead_time

-- Since `first` the machine hears nothing else of the UPSes of the lines `cut`, which it needs. Their last statuses at
-- `first` say that they are on battery, and were read at `last` or before.
pub record IsCutOff (configuration : Configuration) (waits : Bool) (cut : ℕ → Bool) (last : ℕ) (first newest : List Event) : Type 0 where
  pub needs : Needs configuration cut
  pub lines : (i : ℕ) → i < length configuration.lines → cut i ≡ true →
      HearsOnly configuration (calls waits (line_in configuration.lines i)) first newest i
      × Says is_on_battery (status i (trace configuration first)) × (polled i (trace configuration first) ≤ last)
  pub young : clock (trace configuration first) ≤ last + begins_in configuration waits

-- The shutdown has begun once more than `begins_in` has passed since `last`, and the machine is in Halted `to_halted`
-- after that, whatever it hears later.
abbrev pub CutOffStop : Configuration → Type 0
CutOffStop configuration = (pace : Pace) (waits : Bool) (cut : ℕ → Bool) (last : ℕ) (first newest later : List Event) →
    IsCutOff configuration waits cut last first newest → IsEven configuration pace first newest →
    StopsBy configuration pace (last + begins_in configuration waits) (suc pace.skip) (newest ++ first) later

-- no reason to stop, whatever may come of it
abbrev pub is_on_line : List (List ℕ) → Bool
is_on_line words = not (has_fsd words) && not (is_on_battery words)

-- The machine hears nothing of the UPSes of these lines but that they are on line, and so was the last that it had heard of
-- each, if anything. They supply enough. Then no shutdown begins.
abbrev pub NoneBeginsOnLine : Configuration → Type 0
NoneBeginsOnLine configuration = (cut : ℕ → Bool) (first newest : List Event) →
    ((i : ℕ) → i < length configuration.lines → cut i ≡ true → HearsOnly configuration is_on_line first newest i
    × ((words : List (List ℕ)) → status i (trace configuration first) ≡ Some words → is_on_line words ≡ true)) →
    configuration.min_supplies ≤ power_where cut configuration.lines → has_begun configuration (trace configuration first) ≡ false →
    has_begun configuration (trace configuration (newest ++ first)) ≡ false
