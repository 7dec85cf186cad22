-- The history and the content after an event, and after the oldest notice was asked for.
use Rattle.std.proofs.Common.{◌≡◌, ◌<◌, ℕ, Bool, inr, refl, sym, ap, subst, ◌∙◌, List, [], ◌∷◌, length, drop, slice_get, Option, Some, None, Result, Ok, arith}
use Rattle.std.proofs.lemmas.Bool.{lt-ltb}
use Rattle.nut_monitor_spec.specs.Acceptance.{Tells, answer_on, is_linked, waiting_on, watch_at}
use Rattle.nut_monitor_spec.specs.Configuration.{Configuration}
use Rattle.nut_monitor_spec.specs.Content.{Content}
use Rattle.nut_monitor_spec.specs.Event.{Event, NoticeTaken}
use Rattle.nut_monitor_spec.specs.Handing.{after_asking}
use Rattle.nut_monitor_spec.specs.Outcome.{IsAnswer, after}
use Rattle.nut_monitor_spec.specs.machine.MachineOutcome.{content_after}
use Rattle.nut_monitor_spec.specs.Trace.{last_answer, linked, trace, waits}
use Rattle.nut_monitor_spec.specs.declared.LastAnswer.{LastAnswer}
use Rattle.nut_monitor_spec.specs.declared.MonitorFault.{MonitorFault}
use Rattle.nut_monitor_spec.specs.declared.Notice.{Notice}
use Rattle.nut_monitor.specs.inside.Inside.{IsOrderly}
use Rattle.nut_monitor.specs.Bounds.{KeepsLittle}
use Rattle.nut_monitor_spec.proofs.Answering.{answers-keep, answers-told}
use Rattle.nut_monitor_spec.proofs.Told.{links-told}

pub stands_after : (old new : Content) (e : Event) (r : Result (Unit {0}) MonitorFault) → IsAnswer old e r → new ≡ content_after r old e
    → (configuration : Configuration) (events : List Event) → Tells configuration events old → Tells configuration (after r e events) new
stands_after old new e r answered is configuration events told =
    subst (Tells configuration (after r e events)) (sym is) (answers-keep configuration events old e r told answered)

taken_of : (old new : Content) (waiting : List Notice) (taken : Option Notice) → old.notices ≡ waiting → taken ≡ slice_get waiting 0
    → new ≡ record old { notices = drop 1 waiting }
    → (configuration : Configuration) (events : List Event) → Tells configuration events old → Tells configuration (after_asking taken events) new
taken_of old new [] None is first left configuration events told =
    subst (Tells configuration events) (sym (left ∙ ap (λ x. let r : Content = record old { notices = x } in r) (sym is))) told
taken_of old new (oldest ∷ others) (Some notice) is first left configuration events told =
    subst (Tells configuration (NoticeTaken ∷ events)) (sym (left ∙ ap (λ x. let r : Content = record old { notices = drop 1 x } in r) (sym is)))
    (answers-keep configuration events old NoticeTaken (Ok tt) told (refl, lt-ltb 0 (length old.notices) (omega (arith, ap length is))))
taken_of old new _ _ is first left configuration events told = cc

pub stands_taken : (s old : Content) (left : List Notice) (taken : Option Notice) → s ≡ old → taken ≡ slice_get s.notices 0 → left ≡ drop 1 s.notices
    → (configuration : Configuration) (events : List Event) → Tells configuration events old → Tells configuration (after_asking taken events) (record s { notices = left })
stands_taken s old left taken same first rest configuration events told =
    taken_of s (record s { notices = left }) s.notices taken refl first (ap (λ x. let r : Content = record s { notices = x } in r) rest)
    configuration events (subst (Tells configuration events) (sym same) told)

-- ---- links

pub linked_told : (s : Content) (i : ℕ) (there : Bool) → there ≡ is_linked (watch_at i s.watches)
    → (configuration : Configuration) (events : List Event) → Tells configuration events s → there ≡ linked i (trace configuration events)
linked_told s i there is configuration events told =
    is ∙ ap (λ (x : Content). is_linked (watch_at i x.watches)) told.1 ∙ links-told.there configuration events i (inr told.0)

pub waiting_told : (s : Content) (i : ℕ) (bytes : List ℕ) → bytes ≡ waiting_on (watch_at i s.watches)
    → (configuration : Configuration) (events : List Event) → Tells configuration events s → bytes ≡ waits configuration i (trace configuration events)
waiting_told s i bytes is configuration events told =
    is ∙ ap (λ (x : Content). waiting_on (watch_at i x.watches)) told.1 ∙ links-told.left configuration events i told.0

pub answer_told : (s : Content) (i : ℕ) (answer : Option LastAnswer) → answer ≡ answer_on (watch_at i s.watches)
    → (configuration : Configuration) (events : List Event) → Tells configuration events s → i < length configuration.lines → answer ≡ last_answer i (trace configuration events)
answer_told s i answer is configuration events told less =
    is ∙ ap (λ (x : Content). answer_on (watch_at i x.watches)) told.1 ∙ answers-told configuration events i less

-- an orderly monitor keeps little
pub orderly_little : (s : Content) → IsOrderly s → KeepsLittle s
orderly_little s o = record { notices = omega (arith, o.few); links = o.links }
