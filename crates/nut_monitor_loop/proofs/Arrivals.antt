-- How an event that the world gave, and the monitor's answer to it, continue what is watched.
use Rattle.std.proofs.Common.{◌≡◌, ℕ, List, [], ◌++◌, Option, Some, None, Result, Ok, Err, OnOk, refl, sym, ◌∙◌, ap, subst}
use Rattle.std.specs.Prelude.{option_map}
use Rattle.nut_monitor_spec.specs.declared.MonitorFault.{MonitorFault}
use Rattle.nut_monitor_spec.specs.declared.MonitorFault.TheVariants.{Memory}
use Rattle.nut_monitor_spec.specs.Configuration.{Configuration}
use Rattle.nut_monitor_spec.specs.Event.{Event}
use Rattle.nut_monitor_spec.specs.Event as event
use Rattle.nut_monitor_spec.specs.Content.{Content, content}
use Rattle.nut_monitor_spec.specs.Acceptance.{Tells}
use Rattle.nut_monitor_spec.specs.Outcome.{IsAnswer, cut_short, after}
use Rattle.nut_monitor_spec.specs.machine.MachineOutcome.{content_after}
use Rattle.nut_monitor_spec.proofs.Answering.{answers-keep}
use Rattle.nut_monitor.specs.declared.event.Event.{Event as Told}
use Rattle.nut_monitor.specs.Events.{event_of}
use Rattle.nut_monitor_loop.specs.Record.{Entry, Gave, WasClosed, event_given, given_by, giving}
use Rattle.nut_monitor_loop.specs.declared.types.Next.{Next}
use Rattle.nut_monitor_loop.specs.declared.types.Next.TheVariants as next
use Rattle.nut_monitor_loop.specs.Watched.{history_of, entries_of, with_event, handed, sender, lost_of, lost_by, Watched}
use Rattle.nut_monitor_loop.proofs.Steps.{Grows, goes_on, IsQuiet, IsQuietIf, sent_on, notices_on}

-- `next` never gives that bytes or a notice were taken
given_next : (n : Next) (items : List ℕ) (e : Event) → event_given n items ≡ Some e → IsQuiet e
given_next n items (event.Moment t) is = tt
given_next n items (event.Linked i) is = tt
given_next n items (event.LinkBytes i piece) is = tt
given_next n items (event.LinkLost i) is = tt
given_next n items (event.OutOfMemory i piece k) is = tt
given_next next.End items (event.LinkTook i k) is = cc
given_next next.End items event.NoticeTaken is = cc
given_next n items e is = cc

-- ---- the event that stands for one given, by the answer

abbrev for_fault : MonitorFault → Event → Option Event
for_fault (Memory link k) e = Some (cut_short k e)
for_fault r e = None

abbrev standing : Result (Unit {0}) MonitorFault → Event → Option Event
standing (Ok u) e = Some e
standing (Err r) e = for_fault r e

stands_as : (r : Result (Unit {0}) MonitorFault) (e : Event) (h : List Event) → with_event (standing r e) h ≡ after r e h
stands_as (Ok u) e h = refl
stands_as (Err (Memory link k)) e h = refl
stands_as (Err r) e h = refl

cut_quiet : (k : ℕ) (e : Event) → IsQuiet e → IsQuiet (cut_short k e)
cut_quiet k (event.LinkTook i n) quiet = quiet
cut_quiet k event.NoticeTaken quiet = quiet
cut_quiet k event quiet = tt

standing_quiet : (r : Result (Unit {0}) MonitorFault) (e : Event) → IsQuiet e → IsQuietIf (standing r e)
standing_quiet (Ok u) e quiet = quiet
standing_quiet (Err (Memory link k)) e quiet = cut_quiet k e quiet
standing_quiet (Err r) e quiet = tt

-- ---- an event came, and was answered

gave_event : (first : Configuration) (D D' : List Entry → Type 0) (s s' : Content) (e : Event) (r : Result (Unit {0}) MonitorFault)
    → Watched first D s None → Grows D D' (Gave e) → IsQuiet e → s.notices ≡ [] → IsAnswer s e r → s' ≡ content_after r s e → Watched first D' s' (lost_by e s s')
gave_event first D D' s s' e r watched more quiet silent answer moved =
    let h = history_of watched.steps in
    let same : with_event (standing r e) h ≡ after r e h = stands_as r e h in
    let holds : Tells first (after r e h) s' = subst (λ t. Tells first (after r e h) t) (sym moved) (answers-keep first h s e r watched.holds answer) in
    let here : Tells first (with_event (standing r e) h) s' = subst (λ g. Tells first g s') (sym same) holds in
    goes_on first D D' s s' None (lost_by e s s') (Gave e) (standing r e) watched more (
      r,
      refl,
      subst (λ (t : Content). t.notices ≡ []) watched.holds.1 silent,
      subst (λ t. IsAnswer t e r) watched.holds.1 answer,
      same,
      ap (λ t. lost_by e t s') watched.holds.1 ∙ ap (λ t. lost_by e (content first h) t) holds.1,
    )
    here
    (λ i. sent_on first h (standing r e) i _ here.0 (standing_quiet r e quiet) (watched.sent_is i))
    (notices_on first h s s' (standing r e) (handed (entries_of watched.steps)) watched.holds here (standing_quiet r e quiet) watched.notices_are)

-- What `next` gave was told to the monitor as the event that it is. `sent` is the link on which it came, if it is a
-- piece, and `lost` is that link if it is no longer up.
pub gave_ending : (first : Configuration) (D' : List Entry → Type 0) (s s' : Content) (n : Next) (items : List ℕ) (found : Option Told) (told : Told) (r : Result (Unit {0}) MonitorFault) (sent lost known : Option ℕ)
    → Watched first (λ entries. D' (given_by n items ++ entries)) s None → option_map event_of found ≡ event_given n items → found ≡ Some told → s.notices ≡ []
    → IsAnswer s (event_of told) r → s' ≡ content_after r s (event_of told) → sent ≡ sender (event_of told) s → lost ≡ lost_of sent s' → lost ≡ known → Watched first D' s' known
gave_ending first D' s s' n items found told r sent lost known before stands is silent answer moved came gone same =
    let e : Event = event_of told in
    let given : event_given n items ≡ Some e = sym stands ∙ ap (λ a. option_map event_of a) is in
    let D : List Entry → Type 0 = λ entries. D' (given_by n items ++ entries) in
    let more : Grows D D' (Gave e) = λ entries did. subst (λ a. D' (giving a ++ entries)) given did in
    let ends : lost_by e s s' ≡ known = ap (λ l. lost_of l s') (sym came) ∙ sym gone ∙ same in
    subst (λ w. Watched first D' s' w) ends (gave_event first D D' s s' e r before more (given_next n items e given) silent answer moved)

-- ---- closes

-- the link that has to be closed is closed
pub closed : (first : Configuration) (D D' : List Entry → Type 0) (s : Content) (i : ℕ) → Watched first D s (Some i) → Grows D D' (WasClosed i) → Watched first D' s None
closed first D D' s i watched more =
    goes_on first D D' s s (Some i) None (WasClosed i) None watched more (refl, refl, refl) watched.holds watched.sent_is watched.notices_are

pub closes : {T E P : Type 0} (r : Result T E) (first : Configuration) (D D' : List Entry → Type 0) (s : Content) (i : ℕ) → Watched first D s (Some i) → OnOk r P → (P → Grows D D' (WasClosed i)) → OnOk r (Watched first D' s None)
closes (Ok _) first D D' s i watched call on = closed first D D' s i watched (on call)
closes (Err _) first D D' s i watched call on = tt
