-- Requests that are tracked: their numbers, and how they ended (NUT developer guide, chapter 9: TRACKING).
use Rattle.std.specs.Prelude.{ℕ, ◌==◌, List, ◌∷◌, map, take, Option, Some, None, if◌then◌else◌}
use Rattle.std.specs.Option.{option_map_or}
use Rattle.nut_words.specs.Lines.{LineText, Text, TooLong}
use Rattle.nut_state.specs.Change.{Change, heard, tracking}
use Rattle.nut_proto.specs.declared.tracking.TrackingStatus.{TrackingStatus}
use Rattle.nut_proto.specs.declared.tracking.TrackingStatus.TheVariants.{Pending, Success, Failed}
use Rattle.nut_server_spec.specs.declared.limits.TheConstants.{TRACKED_MAX}

-- a request that is tracked: its number, and how it ended
pub record Tracked : Type 0 where
  pub number : ℕ
  pub status : TrackingStatus

-- what a driver's change reports of a request: its number and a status
abbrev pub told_by : Change → Option (ℕ × ℕ)
told_by (tracking (Some number) (Some status)) = Some (number, status)
told_by change = None

-- what a driver's line reports of a request: `TRACKING number status`
abbrev pub told_in : LineText → Option (ℕ × ℕ)
told_in (Text line) = option_map_or told_by (heard line) None
told_in TooLong = None

-- how a request ended, once its driver reports this status: 0 is a success, and the first report counts
abbrev pub judged : ℕ → TrackingStatus → TrackingStatus
judged status Pending = if status == 0 then Success else Failed
judged status before = before

-- how the request n ended, once a driver reports this
abbrev pub ended_by : Option (ℕ × ℕ) → ℕ → TrackingStatus → TrackingStatus
ended_by None n before = before
ended_by (Some told) n before = if told.0 == n then judged told.1 before else before

-- how a request ended, once its driver is gone
abbrev pub abandoned : TrackingStatus → TrackingStatus
abandoned Pending = Failed
abandoned before = before

-- ---- the newest requests that are tracked, the newest first

-- with the one that is given this number, if one is; at most TRACKED_MAX are remembered
abbrev pub with_tracked : Option ℕ → List Tracked → List Tracked
with_tracked None before = before
with_tracked (Some n) before = take TRACKED_MAX (record { number = n; status = Pending } ∷ before)

-- after what a driver's line reports
abbrev pub all_ended_by : Option (ℕ × ℕ) → List Tracked → List Tracked
all_ended_by told before = map (λ t. record { number = t.number; status = ended_by told t.number t.status }) before

-- after the driver is gone
abbrev pub all_abandoned : List Tracked → List Tracked
all_abandoned before = map (λ t. record { number = t.number; status = abandoned t.status }) before
