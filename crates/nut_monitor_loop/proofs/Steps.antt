-- What is watched stays watched at each step of the loop.
use Rattle.std.proofs.Common.{◌≡◌, ◌≢◌, ℕ, List, [], ◌∷◌, ◌++◌, Option, Some, None, Result, Ok, Err, OnErr, refl, sym, ◌∙◌, ap, subst, append-nil}
use Rattle.nut_conf.specs.declared.upsmon.MonConfig.{MonConfig}
use Rattle.nut_monitor_spec.specs.declared.MonitorFault.{MonitorFault}
use Rattle.nut_monitor_spec.specs.declared.MonitorFault.TheVariants.{Memory}
use Rattle.nut_monitor_spec.specs.Configuration.{Configuration}
use Rattle.nut_monitor_spec.specs.Event.{Event, LinkLost, LinkTook, NoticeTaken}
use Rattle.nut_monitor_spec.specs.Trace.{trace, sent, notices, taken_after, taken_notice, since_linked}
use Rattle.nut_monitor_spec.specs.Content.{Content}
use Rattle.nut_monitor_spec.specs.Acceptance.{refusal, IsAccepted, Tells}
use Rattle.nut_monitor_spec.specs.machine.Machine.{advance}
use Rattle.nut_monitor_spec.specs.Outcome.{IsAnswer, IsRefusal, MayLack}
use Rattle.nut_monitor_spec.specs.machine.MachineOutcome.{content_after}
use Rattle.nut_monitor_spec.proofs.Answering.{answers-keep}
use Rattle.nut_monitor_loop.specs.Record.{Entry, Gave, event_given, giving, given_by, LeadsTo}
use Rattle.nut_monitor_loop.specs.Watched.{entries_of, history_of, with_event, Stands, taken, since_made, handed, Since, Watched, WatchedBefore}
use Rattle.nut_monitor_loop.specs.declared.types.Next.{Next}
use Rattle.nut_monitor_loop.proofs.Sent.{sent-given}
use Rattle.nut_monitor_loop.proofs.Handed.{handed-given}

-- one more entry was done
abbrev pub Grows : (List Entry → Type 0) → (List Entry → Type 0) → Entry → Type 0
Grows D D' entry = (entries : List Entry) → D entries → D' (entry ∷ entries)

-- nothing more was done
abbrev pub Stays : (List Entry → Type 0) → (List Entry → Type 0) → Type 0
Stays D D' = (entries : List Entry) → D entries → D' entries

-- what a call did follows what was done since the start
pub follows : {W : Type 0} (Did : MonConfig → W → W → List Entry → Type 0)
    → ((config : MonConfig) (a b c : W) (xs ys : List Entry) → Did config a b xs → Did config b c ys → Did config a c (ys ++ xs))
    → (since : Since W) (old new : W) (config : MonConfig) (ys : List Entry) → config ≡ since.config → Did config old new ys
    → (entries : List Entry) → Did since.config since.start old entries → Did since.config since.start new (ys ++ entries)
follows Did on since old new config ys same call entries before =
    on since.config since.start old new entries ys before (subst (λ c. Did c old new ys) same call)

-- one more step
pub goes_on : (first : Configuration) (D D' : List Entry → Type 0) (s s' : Content) (owed owed' : Option ℕ) (entry : Entry) (event : Option Event) (watched : Watched first D s owed)
    → Grows D D' entry → Stands first (history_of watched.steps) owed entry event owed' → Tells first (with_event event (history_of watched.steps)) s'
    → ((i : ℕ) → taken i (record { entry = entry; event = event } ∷ watched.steps) ≡ sent first i (trace first (with_event event (history_of watched.steps))))
    → handed (entry ∷ entries_of watched.steps) ++ s'.notices ≡ notices (trace first (with_event event (history_of watched.steps))) → Watched first D' s' owed'
goes_on first D D' s s' owed owed' entry event watched more stands holds same all =
    record {
      steps = record { entry = entry; event = event } ∷ watched.steps;
      did = more (entries_of watched.steps) watched.did;
      told = (owed, watched.told, stands);
      holds = holds;
      sent_is = same;
      notices_are = all;
    }

-- a fault adds nothing to the record
pub stays : (first : Configuration) (D D' : List Entry → Type 0) (s : Content) (owed : Option ℕ) → Stays D D' → Watched first D s owed → Watched first D' s owed
stays first D D' s owed same watched =
    record {
      steps = watched.steps;
      did = same (entries_of watched.steps) watched.did;
      told = watched.told;
      holds = watched.holds;
      sent_is = watched.sent_is;
      notices_are = watched.notices_are;
    }

-- what `next` leads to follows what was done since the start
pub leads : {W : Type 0} (Did Awaits : MonConfig → W → W → List Entry → Type 0)
    → ((config : MonConfig) (a b c : W) (xs ys : List Entry) → Did config a b xs → Did config b c ys → Did config a c (ys ++ xs))
    → ((config : MonConfig) (a b c : W) (xs ys : List Entry) → Did config a b xs → Awaits config b c ys → Awaits config a c (ys ++ xs))
    → (since : Since W) (old new : W) (config : MonConfig) (n : Next) (items : List ℕ) → config ≡ since.config
    → LeadsTo n items (Awaits config old new) (Did config old new) []
    → (entries : List Entry) → Did since.config since.start old entries
    → LeadsTo n items (Awaits since.config since.start new) (Did since.config since.start new) entries
leads Did Awaits did_on awaits_on since old new config n items same call entries before =
    let here : LeadsTo n items (Awaits since.config old new) (Did since.config old new) [] =
    subst (λ c. LeadsTo n items (Awaits c old new) (Did c old new) []) same call in (
      λ some.
          awaits_on since.config since.start old new entries (given_by n items) before
          (subst (λ ys. Awaits since.config old new ys) (append-nil (given_by n items)) (here.0 some)),
      λ none. did_on since.config since.start old new entries [] before (here.1 none),
    )

given_some : {E : Type 0} (given : Option E) (e : E) → given ≡ Some e → given ≢ None
given_some given e some none = cc

-- the world heard what became of the event that it gave
pub heard : {W : Type 0} (Did Awaits : MonConfig → W → W → List Entry → Type 0) (since : Since W) (old new : W) (config : MonConfig) → config ≡ since.config
    → (e : Event) → ((a : W) (before : List Entry) → Awaits config a old (Gave e ∷ before) → Did config a new (Gave e ∷ before))
    → (n : Next) (items : List ℕ) → event_given n items ≡ Some e → (first : Configuration) (s : Content)
    → WatchedBefore first (Awaits since.config since.start old) (Did since.config since.start old) s n items
    → Watched first (λ entries. Did since.config since.start new (given_by n items ++ entries)) s None
heard Did Awaits since old new config same e call n items given first s watched =
    stays first _ _ s None (λ entries led.
    subst (λ o. Did since.config since.start new (giving o ++ entries)) (sym given)
    (subst (λ c. Did c since.start new (Gave e ∷ entries)) same
    (call since.start entries
    (subst (λ c. Awaits c since.start old (Gave e ∷ entries)) (sym same)
    (subst (λ o. Awaits since.config since.start old (giving o ++ entries)) given (led.0 (given_some _ e given)))))))
    watched

-- what is watched at a fault, with or without a link to be closed
pub at_err : {T E : Type 0} (r : Result T E) (first : Configuration) (D : List Entry → Type 0) (s : Content) (owed : Option ℕ) → Watched first D s owed
    → OnErr r ((x : Option ℕ) × Watched first D s x)
at_err (Ok _) first D s owed watched = tt
at_err (Err _) first D s owed watched = (owed, watched)

pub faulted : {T E P : Type 0} (r : Result T E) (first : Configuration) (D D' : List Entry → Type 0) (s : Content) (owed : Option ℕ) → Watched first D s owed → OnErr r P → (P → Stays D D')
    → OnErr r ((x : Option ℕ) × Watched first D' s x)
faulted (Ok _) first D D' s owed watched call on = tt
faulted (Err _) first D D' s owed watched call on = (owed, stays first D D' s owed (on call) watched)

-- ---- events that take nothing

abbrev pub IsQuiet : Event → Type 0
IsQuiet (LinkTook i n) = ⊥
IsQuiet NoticeTaken = ⊥
IsQuiet e = Unit {0}

takes_none : (e : Event) → IsQuiet e → (i t : ℕ) → taken_after i e t ≡ since_linked 0 i e t
takes_none (LinkTook j n) quiet i t = absurd quiet
takes_none NoticeTaken quiet i t = absurd quiet
takes_none event quiet i t = refl

takes_no_notice : (e : Event) → IsQuiet e → (n : ℕ) → taken_notice e n ≡ n
takes_no_notice (LinkTook j m) quiet n = absurd quiet
takes_no_notice NoticeTaken quiet n = absurd quiet
takes_no_notice event quiet n = refl

abbrev pub IsQuietIf : Option Event → Type 0
IsQuietIf None = Unit {0}
IsQuietIf (Some e) = IsQuiet e

pub sent_on : (first : Configuration) (h : List Event) (event : Option Event) (i : ℕ) (before : List ℕ) → IsAccepted first (with_event event h) → IsQuietIf event
    → before ≡ sent first i (trace first h) → since_made i event before ≡ sent first i (trace first (with_event event h))
sent_on first h None i before accepted quiet same = same
sent_on first h (Some e) i before accepted quiet same =
    ap (λ b. since_linked [] i e b) same ∙ sym (sent-given first h i e accepted (takes_none e quiet i))

pub notices_on : (first : Configuration) (h : List Event) (s s' : Content) (event : Option Event) (before : List _) → Tells first h s → Tells first (with_event event h) s' → IsQuietIf event
    → before ++ s.notices ≡ notices (trace first h) → before ++ s'.notices ≡ notices (trace first (with_event event h))
notices_on first h s s' None before told told' quiet same =
    ap (λ (t : Content). before ++ t.notices) (told'.1 ∙ sym told.1) ∙ same
notices_on first h s s' (Some e) before told told' quiet same =
    ap (λ (t : Content). before ++ t.notices) told'.1
    ∙ handed-given first h e before told'.0 (takes_no_notice e quiet) (sym (ap (λ (t : Content). before ++ t.notices) told.1) ∙ same)

-- ---- events that take no memory

-- memory cannot be lacking at this event
abbrev pub TakesNoMemory : Event → Type 0
TakesNoMemory e = (s : Content) (link : Option ℕ) (k : ℕ) → MayLack s link k e → ⊥

pub no_memory_took : (i n : ℕ) → TakesNoMemory (LinkTook i n)
no_memory_took i n s None k lacks = lacks
no_memory_took i n s (Some j) k lacks = lacks

pub no_memory_lost : (i : ℕ) → TakesNoMemory (LinkLost i)
no_memory_lost i s None k lacks = lacks
no_memory_lost i s (Some j) k lacks = lacks

refused_not : (s : Content) (e : Event) (r : MonitorFault) → refusal s e ≡ None → TakesNoMemory e → IsRefusal s e r → ⊥
refused_not s e (Memory link k) free small is = small s link k is.1
refused_not s e r free small is = cc

-- an event that takes no memory and that no test refuses is accepted
pub moved_on : (s s' : Content) (e : Event) (r : Result (Unit {0}) MonitorFault) → refusal s e ≡ None → TakesNoMemory e → IsAnswer s e r → s' ≡ content_after r s e → s' ≡ advance s e
moved_on s s' e (Ok u) free small answer moved = moved
moved_on s s' e (Err r) free small answer moved = absurd (refused_not s e r free small answer)

pub holds_on : (first : Configuration) (h : List Event) (s s' : Content) (e : Event) (r : Result (Unit {0}) MonitorFault) → Tells first h s → refusal s e ≡ None → TakesNoMemory e
    → IsAnswer s e r → s' ≡ content_after r s e → Tells first (e ∷ h) s'
holds_on first h s s' e (Ok u) told free small answer moved =
    subst (λ t. Tells first (e ∷ h) t) (sym moved) (answers-keep first h s e (Ok u) told answer)
holds_on first h s s' e (Err r) told free small answer moved = absurd (refused_not s e r free small answer)
