-- What an arrival and the server's answer to it do to `Served`.
use Rattle.std.proofs.Common.{◌≡◌, ℕ, List, [], ◌∷◌, ◌++◌, Option, Some, None, unwrap_or, Result, Ok, Err, refl, sym, ◌∙◌, ap, subst, true, false}
use Rattle.std.specs.Prelude.{IfSome, option_map, is_err}
use Rattle.std.proofs.lemmas.Bool.{true≢false}
use Rattle.nut_server_spec.specs.declared.Place.TheVariants.{NewUpses}
use Rattle.nut_server_spec.specs.declared.Refused.{Refused}
use Rattle.nut_server_spec.specs.declared.Refused.TheVariants.{Memory}
use Rattle.nut_server_spec.specs.Configuration.{Configuration}
use Rattle.nut_server_spec.specs.Event.{Event}
use Rattle.nut_server_spec.specs.Event as event
use Rattle.nut_server_spec.specs.Content.{Content, content}
use Rattle.nut_server_spec.specs.Acceptance.{Tells}
use Rattle.nut_server_spec.specs.Outcome.{IsRefusal, after_refusal}
use Rattle.nut_server_spec.specs.Reloading.{drivers_ended, connections_ended}
use Rattle.nut_server.specs.declared.arrival.Arrival.{Arrival}
use Rattle.nut_server.specs.Arrival.{event_of}
use Rattle.nut_server_loop.specs.Record.{Entry, Gave, tells, tells_next, tells_arrival, arrival_of, is_reload, late_in, NothingIsWithheld, LeadsTo}
use Rattle.nut_server_loop.specs.declared.types.Next.{Next}
use Rattle.nut_server_loop.specs.declared.types.Next.TheVariants as next
use Rattle.nut_server_loop.specs.Served.{Served, entries_of, to_close, ended_by, ended_by_event, ended_by_refusal, history_of, taken, sent_to}
use Rattle.nut_server_loop.specs.inside.Going.{Offered, OfferedBefore, ended_by_lack, listed}
use Rattle.nut_server_loop.specs.declared.types.Peer.{Peer}
use Rattle.nut_server_loop.specs.declared.types.Peer.TheVariants.{Connection}
use Rattle.nut_server_loop.proofs.Steps.{Answered, Leads, goes_on, stays}
use Rattle.nut_server_loop.proofs.Begun.{taken_in, sent_on, sent_to-refused, refusal_leaves}

-- an event that `next` can give: no bytes were taken, and no write failed
abbrev pub IsGiven : Event → Type 0
IsGiven (event.Took c n) = ⊥
IsGiven (event.WriteFailed c) = ⊥
IsGiven (event.DriverTook u n) = ⊥
IsGiven e = Unit {0}

given_next : (n : Next) (items : List ℕ) (e : Event) → arrival_of n items ≡ Some e → IsGiven e
given_next n items e is = rw is at (given_any n items) where
  given_any : (n : Next) (items : List ℕ) → IfSome (arrival_of n items) IsGiven
  given_any (next.Moment t) items = tt
  given_any n items = tt

-- ---- an accepted arrival

takes_none : (e : Event) (p : Peer) → IsGiven e → taken_in e p ≡ 0
takes_none (event.Took d n) p given = absurd given
takes_none (event.DriverTook v n) p given = absurd given
takes_none e p given = refl

-- ---- an arrival came and was answered

offered_by : (first : Configuration) (o : Option (List Entry)) (s : Content) (ready : Offered first o s) → NothingIsWithheld (late_in (entries_of ready.served.steps)) (content first (history_of ready.served.steps))
offered_by first o s ready = subst (λ t. NothingIsWithheld (late_in (entries_of ready.served.steps)) t) ready.served.holds.1 ready.offered

gave_event : {U : Type 0} (first : Configuration) (o o' : Option (List Entry)) (s s' : Content) (e : Event) (r : Result U Refused)
    → Offered first o s → o' ≡ tells (Gave e) o → IsGiven e → Answered s e r → Leads s e r s' → Served first o' s' (ended_by s e r)
gave_event first o o' s s' e (Ok u) ready more given answer leads =
    let served = ready.served in
    let h = history_of served.steps in
    let holds = leads first h served.holds in
    (goes_on first o o' (λ p. false) s s' [] (ended_by_event s e) (Gave e) served (e ∷ []) more
    (Ok tt, offered_by first o s ready, refl, answer first h served.holds, refl, ap (λ x. ended_by_event x e) served.holds.1)
    holds
    (λ p. sent_on first h e p (taken first p served.steps) (takes_none e p given) holds.0 (served.sent_is p))
    (λ p is. is)).served
gave_event first o o' s s' e (Err r) ready more given answer leads =
    let served = ready.served in
    let h : List Event = history_of served.steps in
    let joins : after_refusal r e [] ++ h ≡ after_refusal r e h = (refusal_leaves first h (Connection 0) [] r e).joins in
    (goes_on first o o' (λ p. false) s s' [] (ended_by_refusal r) (Gave e) served (after_refusal r e []) more
    (Err r, offered_by first o s ready, refl, answer first h served.holds, joins, refl)
    (subst (λ g. Tells first g s') (sym joins) (leads first h served.holds))
    (λ p.
    (refusal_leaves first h p (taken first p served.steps) r e).stays ∙ served.sent_is p ∙ sym (sent_to-refused first h p r e served.holds.0)
    ∙ ap (λ g. sent_to first p g) (sym joins))
    (λ p is. is)).served

-- What `next` gave was told to the server as the arrival that it stands for.
gave : {U : Type 0} (first : Configuration) (o o' : Option (List Entry)) (s s' : Content) (n : Next) (items : List ℕ) (found : Option Arrival) (arrival : Arrival) (r : Result U Refused)
    → Offered first o s → o' ≡ tells_next n items o → option_map event_of found ≡ arrival_of n items → found ≡ Some arrival
    → Answered s (event_of arrival) r → Leads s (event_of arrival) r s' → Served first o' s' (ended_by s (event_of arrival) r)
gave first o o' s s' n items found arrival r ready more stands is answer leads =
    let e : Event = event_of arrival in
    let same : arrival_of n items ≡ Some e = sym stands ∙ ap (λ a. option_map event_of a) is in
    gave_event first o o' s s' e r ready (more ∙ ap (λ a. tells_arrival a o) same) (given_next n items e same) answer leads

-- The event ends nothing if it is accepted, whatever the server's content.
abbrev EndsNothing : Event → Type 0
EndsNothing e = (s : Content) → ended_by_event s e ≡ []

-- Only a reload ends anything if it is accepted.
ends_nothing : (n : Next) (items : List ℕ) (e : Event) → is_reload n ≡ false → arrival_of n items ≡ Some e → EndsNothing e
ends_nothing (next.Reload config) items e plain is = absurd (true≢false plain)
ends_nothing n items e plain is = subst (λ a. EndsNothing (unwrap_or a (event.Close 0))) is (λ s. refl)

ended_without : {U : Type 0} (s : Content) (e : Event) (r : Result U Refused) → EndsNothing e → ended_by s e r ≡ ended_by_lack r
ended_without s e (Ok u) plain = plain s
ended_without s e (Err r) plain = refl

-- What `next` gave was told to the server, and the answer is known to have ended this.
pub gave_ending : {U : Type 0} (first : Configuration) (o' : Option (List Entry)) (s s' : Content) (n : Next) (items : List ℕ) (found : Option Arrival) (arrival : Arrival) (r : Result U Refused) (lack known : Option Peer)
    → OfferedBefore first o' s n items → option_map event_of found ≡ arrival_of n items → found ≡ Some arrival → is_reload n ≡ false
    → Answered s (event_of arrival) r → Leads s (event_of arrival) r s' → ended_by_lack r ≡ listed lack → lack ≡ known → Served first o' s' (listed known)
gave_ending first o' s s' n items found arrival r lack known before stands is plain answer leads ended same =
    let e : Event = event_of arrival in
    let nothing = ends_nothing n items e plain (sym stands ∙ ap (λ a. option_map event_of a) is) in
    subst (λ w. Served first o' s' w) (ended_without s e r nothing ∙ ended ∙ ap listed same) (gave first before.0 o' s s' n items found arrival r before.1 before.2 stands is answer leads)

-- ---- a reload

-- A reload is refused only for lack of memory, which ends nothing.
refused_reload : (first : Configuration) (h : List Event) (k : Configuration) (r : Refused) → IsRefusal first h (event.Reload k) r → ended_by_refusal r ≡ []
refused_reload first h k (Memory NewUpses) is = refl
refused_reload first h k (Memory place) is = absurd is.1
refused_reload first h k r is = cc

reloaded : {U : Type 0} (first : Configuration) (o' : Option (List Entry)) (s s' : Content) (n : Next) (items : List ℕ) (k : Configuration) (r : Result U Refused)
    → OfferedBefore first o' s n items → arrival_of n items ≡ Some (event.Reload k) → Answered s (event.Reload k) r → Leads s (event.Reload k) r s' → Served first o' s' (ended_by s (event.Reload k) r)
reloaded first o' s s' n items k r before is answer leads =
    gave_event first before.0 o' s s' (event.Reload k) r before.1 (before.2 ∙ ap (λ a. tells_arrival a before.0) is) tt answer leads

-- The server took a new configuration, and this is left to close.
pub reload_taken : (first : Configuration) (o' : Option (List Entry)) (s s' : Content) (n : Next) (items : List ℕ) (k : Configuration) (r : Result (Unit {0}) Refused) (drivers connections : List ℕ)
    → OfferedBefore first o' s n items → arrival_of n items ≡ Some (event.Reload k) → Answered s (event.Reload k) r → Leads s (event.Reload k) r s'
    → is_err r ≡ false → drivers ≡ drivers_ended k s → connections ≡ connections_ended k s → Served first o' s' (to_close drivers connections)
reload_taken first o' s s' n items k (Ok u) drivers connections before is answer leads fine same_drivers same_connections =
    subst (λ ds. Served first o' s' (to_close ds connections)) (sym same_drivers)
    (subst (λ cs. Served first o' s' (to_close (drivers_ended k s) cs)) (sym same_connections)
    (reloaded first o' s s' n items k (Ok u) before is answer leads))
reload_taken first o' s s' n items k (Err r) drivers connections before is answer leads fine same_drivers same_connections =
    absurd (true≢false fine)

-- The server had no memory for it: nothing is left to close.
pub reload_refused : (first : Configuration) (o' : Option (List Entry)) (s s' : Content) (n : Next) (items : List ℕ) (k : Configuration) (r : Result (Unit {0}) Refused)
    → OfferedBefore first o' s n items → arrival_of n items ≡ Some (event.Reload k) → Answered s (event.Reload k) r → Leads s (event.Reload k) r s'
    → is_err r ≡ true → Served first o' s' []
reload_refused first o' s s' n items k (Ok u) before is answer leads failed = absurd (true≢false (sym failed))
reload_refused first o' s s' n items k (Err r) before is answer leads failed =
    subst (λ w. Served first o' s' w) (refused_reload first (history_of before.1.served.steps) k r (answer first (history_of before.1.served.steps) before.1.served.holds))
    (reloaded {U = Unit {0}} first o' s s' n items k (Err r) before is answer leads)

-- It gave no arrival.
pub gave_none : (first : Configuration) (o' : Option (List Entry)) (s : Content) (n : Next) (items : List ℕ) (found : Option Arrival)
    → OfferedBefore first o' s n items → option_map event_of found ≡ arrival_of n items → found ≡ None → Served first o' s []
gave_none first o' s n items found before stands is =
    stays first before.0 o' s [] (before.2 ∙ ap (λ a. tells_arrival a before.0) (sym stands ∙ ap (λ a. option_map event_of a) is)) before.1.served

-- ---- the answer to an arrival

-- Where `next` gave an arrival, the world waits for the answer to it.
pub waits_on : {A B : Type 0} (found : Option Arrival) (arrival : Arrival) (o : Option Event) → option_map event_of found ≡ o → found ≡ Some arrival → LeadsTo o A B → A
waits_on found arrival o same is leads = leads.0 (λ none. absurd (cc))

-- Where it gave none, the world waits for nothing.
pub waits_not : {A B : Type 0} (found : Option Arrival) (o : Option Event) → option_map event_of found ≡ o → found ≡ None → LeadsTo o A B → B
waits_not found o same is leads = leads.1 (sym same ∙ ap (λ a. option_map event_of a) is)

-- Where `next` gave a new configuration, the world waits for the answer to it.
pub reload_waits : {A B : Type 0} (n : Next) (items : List ℕ) → is_reload n ≡ true → LeadsTo (arrival_of n items) A B → A
reload_waits (next.Reload config) items is leads = leads.0 (λ none. absurd (cc))
reload_waits n items is leads = absurd (true≢false (sym is))
