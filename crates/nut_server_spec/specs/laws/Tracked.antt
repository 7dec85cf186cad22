-- How a tracked request ended, by looking back over the past for its number (NUT developer guide, chapter 9: TRACKING).
use Rattle.std.specs.Prelude.{ℕ, ◌≡◌, ◌==◌, nat_lt, Bool, false, if◌then◌else◌, List, [], ◌∷◌, map, Option, None}
use Rattle.std.specs.Option.{option_map_or}
use Rattle.nut_proto.specs.declared.tracking.TrackingStatus.{TrackingStatus}
use Rattle.nut_proto.specs.declared.tracking.TrackingStatus.TheVariants.{Pending, Unknown}
use Rattle.nut_server_spec.specs.declared.limits.TheConstants.{TRACKED_MAX}
use Rattle.nut_server_spec.specs.Answer.{status_of}
use Rattle.nut_server_spec.specs.Command.{command_of}
use Rattle.nut_server_spec.specs.Configuration.{Configuration}
use Rattle.nut_server_spec.specs.Content.{content, past}
use Rattle.nut_server_spec.specs.Effect.{at_target, number_in, target}
use Rattle.nut_server_spec.specs.Event.{Event, Step, Said, Reported, Up, Down}
use Rattle.nut_server_spec.specs.Trace.{Entry, numbering, given_then}
use Rattle.nut_server_spec.specs.Numbering.{Numbering, by_fate}
use Rattle.nut_server_spec.specs.Tracking.{abandoned, ended_by, told_in}

-- whether the answer of an entry gives this number to its request
abbrev pub gives : ℕ → Entry → Bool
gives n e = option_map_or (λ m. m == n) (number_in e.answer) false

-- the UPS on which the line of a step acts, if the step is a line that acts on one
abbrev pub target_at : Numbering → Step → Option ℕ
target_at now (Said c line) = target now (command_of line)
target_at now step = None

-- the UPS that was asked by the request with the number n, if n was given
abbrev pub asked_ups : Configuration → ℕ → List Entry → Option ℕ
asked_ups first n [] = None
asked_ups first n (e ∷ past) = if gives n e then target_at (numbering first past) e.step else asked_ups first n past

-- how many numbers were given to requests to u after n was given
abbrev pub given_since : Configuration → ℕ → ℕ → List Entry → ℕ
given_since first u n [] = 0
given_since first u n (e ∷ past) =
    if gives n e then 0 else at_target u (target_at (numbering first past) e.step) (given_then e.answer) (given_since first u n past)

-- how the request with the number n to u ended, after a step: as the driver reports first; it failed if the driver is
-- disconnected or connected anew before that
abbrev pub ended_after : ℕ → ℕ → Step → TrackingStatus → TrackingStatus
ended_after u n (Reported v line) before = if v == u then ended_by (told_in line) n before else before
ended_after u n (Up v) before = if v == u then abandoned before else before
ended_after u n (Down v) before = if v == u then abandoned before else before
ended_after u n step before = before

-- how the request with the number n to u ended; nobody knows once a reload cleared the UPS
abbrev pub ended : ℕ → ℕ → List Entry → TrackingStatus
ended u n [] = Unknown
ended u n (e ∷ past) = if gives n e then Pending else by_fate (e.fate u) Unknown abandoned (ended_after u n e.step (ended u n past))

-- How the request with the number n ended: `Unknown` if n was not given, or if as many later requests to the same UPS
-- were tracked as are remembered.
abbrev pub track : Configuration → ℕ → List Entry → TrackingStatus
track first n past =
    option_map_or (λ u. if nat_lt (given_since first u n past) TRACKED_MAX then ended u n past else Unknown) (asked_ups first n past) Unknown

-- What GET TRACKING reports of a number is what looking back for the number says.
abbrev pub TrackingLooksBack : Type 0
TrackingLooksBack =
    (first : Configuration) (h : List Event) (n : ℕ) →
    status_of n (map (λ d. d.device) (content first h).supplies) ≡ track first n (past first h)
