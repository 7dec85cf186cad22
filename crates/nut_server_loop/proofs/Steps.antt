-- Each step of the loop keeps `Served`.
use Rattle.std.proofs.Common.{◌≡◌, ℕ, ◌≤◌, Bool, true, false, List, [], ◌∷◌, ◌++◌, length, take, drop, Option, Some, None, Result, Ok, Err, IfSome, OnOk, OnErr, is_ok, ◌+◌, if◌then◌else◌, refl, sym, ◌∙◌, ap, subst, arith, length-append}
use Rattle.std.proofs.lemmas.Bool.{true≢false}
use Rattle.std.proofs.lemmas.List.{take-append-le}
use Rattle.nut_queue.specs.Front.{IsFrontPart}
use Rattle.nut_server_spec.specs.declared.Place.{Place}
use Rattle.nut_server_spec.specs.declared.Refused.{Refused}
use Rattle.nut_server_spec.specs.declared.Refused.TheVariants.{Memory}
use Rattle.nut_server_spec.specs.Configuration.{Configuration}
use Rattle.nut_server_spec.specs.Event.{Event}
use Rattle.nut_server_spec.specs.Content.{Content, content}
use Rattle.nut_server_spec.specs.Acceptance.{refusal, Tells}
use Rattle.nut_server_spec.specs.machine.Machine.{advance}
use Rattle.nut_server_spec.specs.Outcome.{IsAnswer, IsRefusal, MayLack, after}
use Rattle.nut_server_spec.proofs.Tells.{tells-step}
use Rattle.nut_server_loop.specs.Record.{Entry, tells, late_in}
use Rattle.nut_server_loop.specs.Served.{Served, Step, Stands, entries_of, history_of, since_begun, taken_for, taken, sent_to}
use Rattle.nut_server_loop.specs.inside.Going.{Since, Serving, Goes}
use Rattle.nut_server_loop.specs.declared.types.Peer.{Peer}

-- What `arrive` promises about the content after it.
abbrev pub Leads : {U : Type 0} → Content → Event → Result U Refused → Content → Type 0
Leads s e r s' = (first : Configuration) (h : List Event) → Tells first h s → Tells first (after r e h) s'

-- A world with a record adds one entry to it.
tells_more : (o : Option (List Entry)) (entries : List Entry) (entry : Entry) → IfSome o (λ r. r ≡ entries) → IfSome (tells entry o) (λ r. r ≡ entry ∷ entries)
tells_more None entries entry same = tt
tells_more (Some r) entries entry same = ap (λ q. entry ∷ q) same

-- one entry more, and what it means for the history
pub goes_on : (first : Configuration) (o o' : Option (List Entry)) (late : Peer → Bool) (s s' : Content) (owed owed' : List Peer) (entry : Entry) (served : Served first o s owed)
    (events : List Event)
    → o' ≡ tells entry o → Stands first (history_of served.steps) (late_in (entries_of served.steps)) owed entry (events ++ history_of served.steps) owed'
    → Tells first (events ++ history_of served.steps) s'
    → ((p : Peer) → taken_for p entry (since_begun first p events (history_of served.steps) (taken first p served.steps)) ≡ sent_to first p (events ++ history_of served.steps))
    → ((p : Peer) → late p ≡ true → late_in (entry ∷ entries_of served.steps) p ≡ true)
    → Serving first o' late s' owed'
goes_on first o o' late s s' owed owed' entry served events more stands holds same late_is =
    let step : Step = record { entry = entry; events = events } in
    record {
      served = record {
        steps = step ∷ served.steps;
        tells = subst (λ q. IfSome q (λ r. r ≡ entry ∷ entries_of served.steps)) (sym more) (tells_more o (entries_of served.steps) entry served.tells);
        told = (owed, served.told, stands);
        holds = holds;
        sent_is = same;
      };
      late_is = late_is;
    }

-- What is served with something left to close is so after an error.
pub at_err : {T E : Type 0} (r : Result T E) (first : Configuration) (o : Option (List Entry)) (s : Content) (owed : List Peer) → Served first o s owed → OnErr r ((x : List Peer) × Served first o s x)
at_err (Ok _) first o s owed served = tt
at_err (Err _) first o s owed served = (owed, served)

-- A fault leaves the record as it is.
pub stays : (first : Configuration) (o o' : Option (List Entry)) (s : Content) (owed : List Peer) → o' ≡ o → Served first o s owed → Served first o' s owed
stays first o o' s owed same served = subst (λ q. Served first q s owed) (sym same) served

-- A call that returned no fault left the record as it is, and whoever is late now was late.
pub serving_on : (first : Configuration) (o o' : Option (List Entry)) (late late' : Peer → Bool) (s : Content) (owed : List Peer) → o' ≡ o → ((p : Peer) → late' p ≡ late p)
    → Serving first o late s owed → Serving first o' late' s owed
serving_on first o o' late late' s owed same kept serving =
    subst (λ q. Serving first q late' s owed) (sym same) (record { served = serving.served; late_is = λ p is. serving.late_is p (sym (kept p) ∙ is) })

-- Where nobody is late.
pub nobody_late : (first : Configuration) (o : Option (List Entry)) (late : Peer → Bool) (s : Content) (owed : List Peer) → ((p : Peer) → late p ≡ false) → Served first o s owed → Serving first o late s owed
nobody_late first o late s owed none served = record { served = served; late_is = λ p is. absurd (true≢false (sym is ∙ none p)) }

-- What is served with something left to close is so if a fault left the record as it was.
pub faulted : {T E : Type 0} (r : Result T E) (first : Configuration) (o o' : Option (List Entry)) (s : Content) (owed : List Peer) → Served first o s owed → OnErr r (o' ≡ o) → OnErr r ((x : List Peer) × Served first o' s x)
faulted (Ok _) first o o' s owed served same = tt
faulted (Err _) first o o' s owed served same = (owed, stays first o o' s owed same served)

-- A part of the loop that began later than another, and after which the world got an answer or nothing happened.
pub goes_then : {W R E : Type 0} (faults : W → ℕ) (log : W → Option (List Entry)) (late : W → Peer → Bool) (Reached : W → W → Type 0) (since at : Since W) (before mid : W) (r : Result R E) (world told : W)
    (s : Content)
    → at.first ≡ since.first → Goes faults log late Reached at mid r world s → log told ≡ log world → ((p : Peer) → late told p ≡ late world p) → faults told ≡ faults world → faults mid ≡ faults before
    → Reached since.start told → Goes faults log late Reached since before r told s
goes_then faults log late Reached since at before mid r world told s same goes kept still counted begun reached =
    record {
      ok = ok_as r (λ serving. serving_on since.first (log world) (log told) (late world) (late told) s [] kept still (subst (λ f. Serving f (log world) (late world) s []) same serving)) goes.ok;
      err = err_as r (λ owed. (owed.0, stays since.first (log world) (log told) s owed.0 kept (subst (λ f. Served f (log world) s owed.0) same owed.1))) goes.err;
      counted = counted ∙ goes.counted ∙ ap (λ n. if is_ok r then n else n + 1) begun;
      reached = reached;
    }
  where
    ok_as : {R E A B : Type 0} (r : Result R E) → (A → B) → OnOk r A → OnOk r B
    ok_as (Ok _) f a = f a
    ok_as (Err _) f a = tt

    err_as : {R E A B : Type 0} (r : Result R E) → (A → B) → OnErr r A → OnErr r B
    err_as (Ok _) f a = tt
    err_as (Err _) f a = f a

-- ---- events that allocate no memory

-- The server answered so, whatever it had been told.
abbrev pub Answered : {U : Type 0} → Content → Event → Result U Refused → Type 0
Answered s e r = (first : Configuration) (h : List Event) → Tells first h s → IsAnswer first h e r

-- The event brings no bytes, so no memory can run out at it.
abbrev pub TakesNoMemory : Event → Type 0
TakesNoMemory e = (first : Configuration) (h : List Event) (p : Place) → MayLack first h p e → ⊥

refused_not : (first : Configuration) (h : List Event) (e : Event) (r : Refused) → refusal (content first h) e ≡ None → TakesNoMemory e → IsRefusal first h e r → ⊥
refused_not first h e (Memory p) free small is = small first h p is.1
refused_not first h e r free small is = cc

-- An event that allocates no memory and that no test refuses is accepted.
accepted : {U : Type 0} (first : Configuration) (h : List Event) (e : Event) (r : Result U Refused) → refusal (content first h) e ≡ None → TakesNoMemory e → IsAnswer first h e r
    → after r e h ≡ e ∷ h
accepted first h e (Ok _) free small answer = refl
accepted first h e (Err r) free small answer = absurd (refused_not first h e r free small answer)

-- what stands for such an event
pub holds_on : {U : Type 0} (first : Configuration) (h : List Event) (s s' : Content) (e : Event) (r : Result U Refused)
    → Tells first h s → refusal s e ≡ None → TakesNoMemory e → Answered s e r → Leads s e r s' → Tells first (e ∷ h) s'
holds_on first h s s' e r told free small answer leads =
    subst (λ g. Tells first g s') (accepted first h e r (subst (λ x. refusal x e ≡ None) told.1 free) small (answer first h told)) (leads first h told)

-- the content after such an event
pub moved : {U : Type 0} (first : Configuration) (o : Option (List Entry)) (s s' : Content) (e : Event) (r : Result U Refused) (owed : List Peer)
    → Served first o s owed → refusal s e ≡ None → TakesNoMemory e → Answered s e r → Leads s e r s' → s' ≡ advance s e
moved first o s s' e r owed served free small answer leads =
    let h = history_of served.steps in
    (holds_on first h s s' e r served.holds free small answer leads).1 ∙ sym (tells-step first h s e served.holds free).1

-- ---- what is offered

pub length_of_front : (part all : List ℕ) → IsFrontPart part all → length part ≤ length all
length_of_front part all front = omega (arith, ap length front.front, length-append part (drop (length part) all))

pub take_of_front : (n : ℕ) (part all : List ℕ) → IsFrontPart part all → n ≤ length part → take n part ≡ take n all
take_of_front n part all front fits = sym (ap (take n) front.front ∙ take-append-le n part (drop (length part) all) fits)
