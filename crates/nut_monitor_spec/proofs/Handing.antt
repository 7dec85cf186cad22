-- The notices that were handed out, and those that wait.
use Rattle.std.proofs.Common.{◌≡◌, ℕ, ◌+◌, ◌≤◌, List, [], ◌∷◌, ◌++◌, length, take, drop, refl, ◌∙◌, ap, ap₂, arith, length-drop, append_assoc, drop-drop, take-append-drop}
use Rattle.std.proofs.lemmas.Bool.{ltb-true}
use Rattle.std.proofs.lemmas.List.{drop-append-le}
use Rattle.nut_monitor_spec.specs.declared.Notice.{Notice}
use Rattle.nut_monitor_spec.specs.Configuration.{Configuration}
use Rattle.nut_monitor_spec.specs.Event.{Event}
use Rattle.nut_monitor_spec.specs.Trace.{Entry, trace, entry_of, notices, notices_taken, notices_waiting, taken_notice}
use Rattle.nut_monitor_spec.specs.Acceptance.{IsAccepted}
use Rattle.nut_monitor_spec.specs.Handing.{handed_by, notices_handed}
use Rattle.nut_monitor_spec.specs.laws.Laws.{NoticesComeInOrder}
use Rattle.nut_monitor_spec.proofs.Kept.{all-hold}

event_is : (configuration : Configuration) (past : List Entry) (event : Event) → (entry_of configuration past event).event ≡ event
unfolding entry_of
event_is configuration past event = refl

-- an event hands out the first m of those that wait
abbrev HandsOut : Configuration → List Event → Event → ℕ → Type 0
HandsOut configuration events event m =
    let past : List Entry = trace configuration events in
    (handed_by event (notices_waiting past) ≡ take m (notices_waiting past))
    × (taken_notice event (notices_taken past) ≡ notices_taken past + m)
    × (m ≤ length (notices_waiting past))

hands_out : (configuration : Configuration) (events : List Event) (event : Event) → IsAccepted configuration (event ∷ events) → (m : ℕ) × HandsOut configuration events event m
hands_out configuration events event accepted = grind (arith, ltb-true)

-- what was handed out and what waits are still all notices, after m more were handed out and others were added
whole_with : (m : ℕ) (handed waiting more all : List Notice) → handed ++ waiting ≡ all → (handed ++ take m waiting) ++ (drop m waiting ++ more) ≡ all ++ more
whole_with m handed waiting more all is =
    rw (
      append_assoc handed (take m waiting) (drop m waiting ++ more),
      ← append_assoc (take m waiting) (drop m waiting) more,
      take-append-drop m waiting,
      ← append_assoc handed waiting more,
      is,
    )

-- what waits after an event that hands out the first m notices
pub waits_behind : (configuration : Configuration) (events : List Event) (event : Event) (m : ℕ) → IsAccepted configuration events
    → taken_notice event (notices_taken (trace configuration events)) ≡ notices_taken (trace configuration events) + m → m ≤ length (notices_waiting (trace configuration events))
    → notices_waiting (trace configuration (event ∷ events))
    ≡ drop m (notices_waiting (trace configuration events)) ++ (entry_of configuration (trace configuration events) event).notices
waits_behind configuration events event m accepted some waits = grind (arith, all-hold, length-drop, event_is, drop-append-le, drop-drop)

pub notices-in-order : NoticesComeInOrder
notices-in-order configuration [] accepted = refl
notices-in-order configuration (event ∷ events) accepted =
    let past = trace configuration events in
    let waiting = notices_waiting past in
    let more = (entry_of configuration past event).notices in
    let some = hands_out configuration events event accepted in
    let m = some.0 in
    let out = some.1 in
    rw (
      ap₂ (λ x y. (notices_handed past ++ x) ++ y) (ap (λ e. handed_by e waiting) (event_is configuration past event) ∙ out.0) (waits_behind configuration events event m accepted.0 out.1 out.2),
      whole_with m (notices_handed past) waiting more (notices past) (notices-in-order configuration events accepted.0),
    )
