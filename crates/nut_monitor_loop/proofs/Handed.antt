-- The notices of a history: those that were taken, and those that wait.
use Rattle.std.proofs.Common.{◌≡◌, ℕ, ◌+◌, List, [], ◌∷◌, ◌++◌, length, drop, refl, sym, ◌∙◌, ap, arith, append_assoc}
use Rattle.std.proofs.lemmas.Bool.{ltb-true}
use Rattle.nut_monitor_spec.specs.declared.Notice.{Notice}
use Rattle.nut_monitor_spec.specs.Configuration.{Configuration}
use Rattle.nut_monitor_spec.specs.Event.{Event, NoticeTaken}
use Rattle.nut_monitor_spec.specs.Trace.{trace, entry_of, notices, notices_taken, notices_waiting, taken_notice}
use Rattle.nut_monitor_spec.specs.Content.{content}
use Rattle.nut_monitor_spec.specs.Acceptance.{IsAccepted}
use Rattle.nut_monitor_spec.proofs.Handing.{waits_behind}

-- by an event that takes no notice
pub handed-given : (first : Configuration) (h : List Event) (e : Event) (before : List Notice) → IsAccepted first (e ∷ h) → ((n : ℕ) → taken_notice e n ≡ n)
    → before ++ notices_waiting (trace first h) ≡ notices (trace first h) → before ++ notices_waiting (trace first (e ∷ h)) ≡ notices (trace first (e ∷ h))
handed-given first h e before accepted none same =
    let past = trace first h in
    let more = (entry_of first past e).notices in
    let k = notices_taken past in
    let one : taken_notice e k ≡ k + 0 = omega (arith, none k) in
    ap (λ x. before ++ x) (waits_behind first h e 0 accepted.0 one (omega arith)) ∙ sym (append_assoc before (notices_waiting past) more) ∙ ap (λ x. x ++ more) same

-- by the event that takes the oldest
pub handed-taken : (first : Configuration) (h : List Event) (notice : Notice) (others before : List Notice) → IsAccepted first (NoticeTaken ∷ h) → (content first h).notices ≡ notice ∷ others
    → before ++ notices_waiting (trace first h) ≡ notices (trace first h) → (before ++ notice ∷ []) ++ notices_waiting (trace first (NoticeTaken ∷ h)) ≡ notices (trace first (NoticeTaken ∷ h))
handed-taken first h notice others before accepted oldest same =
    let past = trace first h in
    let more = (entry_of first past NoticeTaken).notices in
    let left : notices_waiting (trace first (NoticeTaken ∷ h)) ≡ others ++ more =
    waits_behind first h NoticeTaken 1 accepted.0 refl (omega (arith, ltb-true 0 (length (notices_waiting past)) accepted.1.1)) ∙ ap (λ x. drop 1 x ++ more) oldest in
    ap (λ x. (before ++ notice ∷ []) ++ x) left
    ∙ append_assoc before (notice ∷ []) (others ++ more)
    ∙ sym (append_assoc before (notice ∷ others) more)
    ∙ ap (λ x. (before ++ x) ++ more) (sym oldest)
    ∙ ap (λ x. x ++ more) same
