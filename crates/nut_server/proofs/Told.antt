-- What a driver's line tells of a request, by the answer of the driver's table to the line.
use Rattle.std.proofs.Common.{◌≡◌, true, false, List, [], ◌∷◌, refl, ap, Option, Some, None}
use Rattle.std.specs.Prelude.{is_some}
use Rattle.std.specs.Option.{option_map_or}
use Rattle.nut_state.specs.Answer.{answer}
use Rattle.nut_state.specs.Change.{Change, tracking}
use Rattle.nut_state.specs.declared.heard.Heard.TheVariants.{Heard, Ignored}
use Rattle.nut_server_spec.specs.Tracking.{Tracked, all_ended_by, told_by}

-- A line that tells of no request changes none.
pub none_ended : (requests : List Tracked) → all_ended_by None requests ≡ requests
none_ended [] = refl
none_ended (t ∷ requests) = ap (λ ts. t ∷ ts) (none_ended requests)

-- A line that is heard and tells of no request.
pub of_heard : (o : Option Change) → answer o ≡ Heard → (is_some o ≡ true) × (option_map_or told_by o None ≡ None)
of_heard None is = absurd (cc)
of_heard (Some (tracking (Some number) (Some status))) is = absurd (cc)
of_heard (Some change) is = (refl, refl)

-- A line that isn't heard.
pub of_ignored : (o : Option Change) → answer o ≡ Ignored → (is_some o ≡ false) × (option_map_or told_by o None ≡ None)
of_ignored None is = (refl, refl)
of_ignored (Some (tracking (Some number) (Some status))) is = absurd (cc)
of_ignored (Some change) is = absurd (cc)
