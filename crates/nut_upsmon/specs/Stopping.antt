-- How soon a machine stops if its UPSes are on a low battery.
use Rattle.std.specs.Prelude.{ℕ, suc, ◌≡◌, ◌+◌, ◌<◌, ◌≤◌, Bool, true, false, ◌&&◌, not, nat_lt, if◌then◌else◌, List, [], ◌++◌, length, Option, Some, None}
use Rattle.std.specs.List.{list_any}
use Rattle.nut_monitor_spec.specs.declared.Phase.TheVariants.{Halted}
use Rattle.nut_monitor_spec.specs.Configuration.{Configuration, Line, has_primary, line_in}
use Rattle.nut_monitor_spec.specs.Event.{Event}
use Rattle.nut_monitor_spec.specs.Trace.{clock, has_begun, phase, trace}
use Rattle.nut_monitor_sockets.specs.declared.limits.TheConstants.{ANSWER_ON_BATTERY}
use Rattle.nut_in_time.specs.AnyServers.{IsEven, IsTold}
use Rattle.nut_in_time.specs.Pace.{Pace}
use Rattle.nut_in_time.specs.InTime.{is_low, seen_by, secondary_by, to_halted}

-- a line that feeds this machine and has another machine as its primary
abbrev pub is_led : Line → Bool
is_led line = not line.primary && nat_lt 0 line.power

-- The seconds until its shutdown has begun, counted from when that status is first shown: nut_in_time's bound for a
-- primary, or, if a line has another machine as its primary, that for a secondary, whatever was known before.
abbrev pub begins_within : Configuration → Pace → ℕ
begins_within configuration pace =
    if list_any is_led configuration.lines then secondary_by configuration pace false 0 + suc pace.skip else seen_by configuration pace 0

-- The seconds until the machine is in Halted.
abbrev pub stops_within : Configuration → Pace → ℕ
stops_within configuration pace = begins_within configuration pace + to_halted configuration pace

-- Each answer comes within this delay, and the clock skips no second.
abbrev pub prompt : ℕ → Pace
prompt delay = record { delay = delay; skip = 0 }

-- The seconds until the machine is in Halted, if each answer comes within this delay. None if upsmon may give up a server
-- that keeps to the delay, since a UPS is on battery meanwhile: what the bound assumes of the links doesn't hold then.
abbrev pub bound : Configuration → ℕ → Option ℕ
bound configuration delay = if nat_lt ANSWER_ON_BATTERY delay then None else Some (stops_within configuration (prompt delay))

-- The bound holds. Since the events `first` all statuses of the UPSes `low` that the machine asks for have OB and LB, at
-- least until its shutdown begins. They feed it, and it has too little without them. Then it is in Halted once the bound has
-- passed.
abbrev pub StopsWithin : Type 0
StopsWithin = (configuration : Configuration) (delay seconds : ℕ) (low : ℕ → Bool) (first newest later : List Event) →
    bound configuration delay ≡ Some seconds →
    IsTold configuration (prompt delay) is_low low first newest →
    ((i : ℕ) → i < length configuration.lines → low i ≡ true → 0 < (line_in configuration.lines i).power) →
    IsEven configuration (prompt delay) (newest ++ first) later →
    (has_begun configuration (trace configuration (newest ++ first)) ≡ false → later ≡ []) →
    clock (trace configuration first) + seconds ≤ clock (trace configuration (later ++ (newest ++ first))) →
    phase configuration (trace configuration (later ++ (newest ++ first))) ≡ Halted (has_primary configuration.lines)
