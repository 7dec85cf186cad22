-- The numbers of tracked requests, and how they ended.
use Rattle.std.specs.Prelude.{ℕ, ◌<◌, ◌≤◌, ◌==◌, Bool, true, false, List, [], ◌∷◌, Option, Some, None, codes, if◌then◌else◌}
use Rattle.std.specs.Str.{bytes_eq}
use Rattle.nut_words.specs.Number.{natural}
use Rattle.nut_proto.specs.declared.limits.TheConstants.{TRACKING_NUMBER_MAX}
use Rattle.nut_proto.specs.declared.tracking.TrackingStatus.{TrackingStatus}
use Rattle.nut_proto.specs.declared.tracking.TrackingStatus.TheVariants as statuses
use Rattle.nut_proto.specs.Keywords.{is_named}

-- The number that the text says: one to nine digits, the first not 0, the byte 48.
abbrev pub tracking_number : List ℕ → Option ℕ
tracking_number [] = None
tracking_number (digit ∷ digits) = if digit == 48 then None else natural (digit ∷ digits)

-- The number may be that of a request.
abbrev pub IsTrackingNumber : ℕ → Type 0
IsTrackingNumber n = (0 < n) × (n ≤ TRACKING_NUMBER_MAX)

abbrev pub status_word : TrackingStatus → List ℕ
status_word statuses.Pending = codes "PENDING"
status_word statuses.Success = codes "SUCCESS"
status_word statuses.Failed = codes "FAILED"
status_word statuses.Unknown = codes "UNKNOWN"

-- the status that a word says
abbrev pub tracking_status : List ℕ → Option TrackingStatus
tracking_status word =
    if bytes_eq word (codes "PENDING") then Some statuses.Pending
    else if bytes_eq word (codes "SUCCESS") then Some statuses.Success
    else if bytes_eq word (codes "FAILED") then Some statuses.Failed
    else if bytes_eq word (codes "UNKNOWN") then Some statuses.Unknown
    else None

abbrev pub switch_word : Bool → List ℕ
switch_word true = codes "ON"
switch_word false = codes "OFF"

-- what ON or OFF says, in upper or lower case
abbrev pub switch : List ℕ → Option Bool
switch word = if is_named word (codes "ON") then Some true else if is_named word (codes "OFF") then Some false else None
