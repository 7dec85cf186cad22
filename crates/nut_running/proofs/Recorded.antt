-- What the records of the loops say: all events were accepted, and a monitor's notices are handed over before anything else
-- happens to it.
use Rattle.std.proofs.Common.{◌≡◌, ◌⊎◌, ℕ, suc, ◌<◌, ◌≤◌, Bool, true, inl, inr, List, [], ◌∷◌, length, Option, Some, None, refl, sym, ◌∙◌, ap, subst, arith}
use Rattle.std.specs.Prelude.{nat_lt, Result, Ok, Err}
use Rattle.std.proofs.lemmas.Bool.{cases_Bool, cases_eq, eq-eqb, ltb-true, ltb-false, lt-ltb}
use Rattle.nut_server_spec.specs.declared.Place.{Place}
use Rattle.nut_server_spec.specs.declared.Place.TheVariants.{Line, Report, NewUpses}
use Rattle.nut_server_spec.specs.declared.Refused.{Refused}
use Rattle.nut_server_spec.specs.declared.Refused.TheVariants.{Memory}
use Rattle.nut_server_spec.specs.Configuration.{Configuration as ServerConfiguration}
use Rattle.nut_server_spec.specs.Event as arrivals
use Rattle.nut_server_spec.specs.Content as server
use Rattle.nut_server_spec.specs.Acceptance as server_tests
use Rattle.nut_server_spec.specs.Outcome as outcome
use Rattle.nut_server_spec.proofs.Tells.{tells-lost, tells-lost_report}
use Rattle.nut_server_loop.specs.declared.types.Peer.{Peer}
use Rattle.nut_server_loop.specs.declared.types.Peer.TheVariants.{Connection, Driver}
use Rattle.nut_server_loop.specs.Record as served_record
use Rattle.nut_server_loop.specs.Record.{leaves_at}
use Rattle.nut_server_loop.specs.Served as served
use Rattle.nut_monitor_spec.specs.Configuration.{Configuration}
use Rattle.nut_monitor_spec.specs.Content.{content}
use Rattle.nut_monitor_spec.specs.Acceptance as monitor_tests
use Rattle.nut_monitor_spec.specs.Event.{Event, NoticeTaken}
use Rattle.nut_monitor_spec.specs.Trace.{trace, notices_waiting}
use Rattle.nut_monitor_spec.proofs.Answering.{answers-keep}
use Rattle.nut_monitor_loop.specs.Record.{Entry, Gave, TookBytes, WasLate, WriteBroke, WasClosed, WasTold}
use Rattle.nut_monitor_loop.specs.Watched.{Step, Told, Stands, history_of, with_event}
use Rattle.nut_fleet.specs.World.{Setup, monitor_of}
use Rattle.nut_running.specs.Running.{Happening, AtServer, AtMonitor, history, Network, IsRun}
use Rattle.nut_running.proofs.Joining.{IsAccepted, IsPromptAt, AreOrdered, history-own, history-other}

-- ---- the server

-- the history after memory ran out
after-lack : (first : ServerConfiguration) (h : List arrivals.Event) (e : arrivals.Event) (place : Place) → server_tests.IsAccepted first h →
    server_tests.refusal (server.content first h) e ≡ None → outcome.MayLack first h place e → server_tests.IsAccepted first (outcome.after_lack place e h)
after-lack first h (arrivals.Bytes d piece) (Line c k) accepted is may = (tells-lost first h (server.content first h) d piece k (accepted, refl) is).0
after-lack first h (arrivals.DriverBytes v piece) (Report u k) accepted is may = (tells-lost_report first h (server.content first h) v piece k (accepted, refl) is).0
after-lack first h e NewUpses accepted is may = accepted
after-lack first h e place accepted is may = absurd may

after-refusal : (first : ServerConfiguration) (h : List arrivals.Event) (e : arrivals.Event) (r : Refused) → server_tests.IsAccepted first h →
    outcome.IsRefusal first h e r → server_tests.IsAccepted first (outcome.after_refusal r e h)
after-refusal first h e (Memory place) accepted is = after-lack first h e place accepted is.0 is.1
after-refusal first h e r accepted is = accepted

after-answer : (first : ServerConfiguration) (h : List arrivals.Event) (e : arrivals.Event) (answer : Result (Unit {0}) Refused) → server_tests.IsAccepted first h →
    outcome.IsAnswer first h e answer → server_tests.IsAccepted first (outcome.after answer e h)
after-answer first h e (Ok u) accepted is = (accepted, is)
after-answer first h e (Err r) accepted is = after-refusal first h e r accepted is

leaving : (first : ServerConfiguration) (h : List arrivals.Event) (p : Peer) → leaves_at p (server.content first h) ≡ true →
    server_tests.refusal (server.content first h) (served.closed p) ≡ None
leaving first h (Connection c) is = by (server_tests.session_of c (server.content first h).sessions) is
  where
    by : (o : Option server.Session) → server_tests.leaves o ≡ true → server_tests.close_refusal o ≡ None
    by None is = cc
    by (Some k) is = refl
leaving first h (Driver u) is = cc

server-step : (first : ServerConfiguration) (h : List arrivals.Event) (late : Peer → Bool) (owed : List Peer) (entry : served_record.Entry) (h' : List arrivals.Event)
    (owed' : List Peer) → server_tests.IsAccepted first h → served.Stands first h late owed entry h' owed' → server_tests.IsAccepted first h'
server-step first h late owed (served_record.Gave e) h' owed' accepted stands =
    subst (λ x. server_tests.IsAccepted first x) (sym stands.4) (after-answer first h e stands.0 accepted stands.3)
server-step first h late owed (served_record.TookBytes p bytes) h' owed' accepted stands =
    subst (λ x. server_tests.IsAccepted first x) (sym stands.1) (accepted, stands.0)
server-step first h late owed (served_record.WasLate p) h' owed' accepted stands = subst (λ x. server_tests.IsAccepted first x) (sym stands.0) accepted
server-step first h late owed (served_record.WriteBroke p) h' owed' accepted stands =
    subst (λ x. server_tests.IsAccepted first x) (sym stands.1) (accepted, stands.0)
server-step first h late owed (served_record.WasClosed p) h' owed' accepted (inl due) = subst (λ x. server_tests.IsAccepted first x) (sym due.1) accepted
server-step first h late owed (served_record.WasClosed p) h' owed' accepted (inr left) =
    subst (λ x. server_tests.IsAccepted first x) (sym left.1) (accepted, leaving first h p left.0)

server-accepted : (first : ServerConfiguration) (steps : List served.Step) (owed : List Peer) → served.Told first steps owed →
    server_tests.IsAccepted first (served.history_of steps)
server-accepted first [] owed told = tt
server-accepted first (step ∷ steps) owed told =
    server-step first (served.history_of steps) (served_record.late_in (served.entries_of steps)) told.0 step.entry (served.history_of (step ∷ steps)) owed
    (server-accepted first steps told.0 told.1) told.2

-- ---- one monitor

abbrev pub IsPrompt : Configuration → List Event → Type 0
IsPrompt configuration [] = Unit {0}
IsPrompt configuration (event ∷ h) = IsPrompt configuration h × IsPromptAt configuration h event

quiet-prompt : (configuration : Configuration) (h : List Event) (event : Event) → notices_waiting (trace configuration h) ≡ [] → IsPromptAt configuration h event
quiet-prompt configuration h NoticeTaken quiet = tt
quiet-prompt configuration h event quiet = quiet

with-quiet : (configuration : Configuration) (h : List Event) (event : Option Event) → IsPrompt configuration h → notices_waiting (trace configuration h) ≡ [] →
    IsPrompt configuration (with_event event h)
with-quiet configuration h None prompt quiet = prompt
with-quiet configuration h (Some event) prompt quiet = (prompt, quiet-prompt configuration h event quiet)

without : (configuration : Configuration) (h : List Event) (event : Option Event) → IsPrompt configuration h → event ≡ None → IsPrompt configuration (with_event event h)
without configuration h None prompt none = prompt
without configuration h (Some event) prompt none = cc

one-step : (configuration : Configuration) (h : List Event) (before : Option ℕ) (entry : Entry) (event : Option Event) (owed : Option ℕ) →
    IsPrompt configuration h → Stands configuration h before entry event owed → IsPrompt configuration (with_event event h)
one-step configuration h before (Gave e) event owed prompt stands = with-quiet configuration h event prompt stands.2
one-step configuration h before (TookBytes i bytes) event owed prompt stands = with-quiet configuration h event prompt stands.0
one-step configuration h before (WasLate i) event owed prompt stands = without configuration h event prompt stands.0
one-step configuration h before (WriteBroke i) event owed prompt stands = with-quiet configuration h event prompt stands.0
one-step configuration h before (WasClosed i) event owed prompt stands = without configuration h event prompt stands.0
one-step configuration h before (WasTold notice) event owed prompt stands =
    subst (λ e. IsPrompt configuration (with_event e h)) (sym stands.2) (prompt, tt)

told-prompt : (configuration : Configuration) (steps : List Step) (owed : Option ℕ) → Told configuration steps owed → IsPrompt configuration (history_of steps)
told-prompt configuration [] owed told = tt
told-prompt configuration (step ∷ steps) owed told =
    one-step configuration (history_of steps) told.0 step.entry step.event owed (told-prompt configuration steps told.0 told.1) told.2

accepted-step : (configuration : Configuration) (h : List Event) (before : Option ℕ) (entry : Entry) (event : Option Event) (owed : Option ℕ) →
    monitor_tests.IsAccepted configuration h → Stands configuration h before entry event owed → monitor_tests.IsAccepted configuration (with_event event h)
accepted-step configuration h before (Gave e) event owed accepted stands =
    subst (λ x. monitor_tests.IsAccepted configuration x) (sym stands.4)
    (answers-keep configuration h (content configuration h) e stands.0 (accepted, refl) stands.3).0
accepted-step configuration h before (TookBytes i bytes) event owed accepted stands =
    subst (λ e. monitor_tests.IsAccepted configuration (with_event e h)) (sym stands.2) (accepted, (stands.1, tt))
accepted-step configuration h before (WasLate i) event owed accepted stands =
    subst (λ e. monitor_tests.IsAccepted configuration (with_event e h)) (sym stands.0) accepted
accepted-step configuration h before (WriteBroke i) event owed accepted stands =
    subst (λ e. monitor_tests.IsAccepted configuration (with_event e h)) (sym stands.2) (accepted, (stands.1, tt))
accepted-step configuration h before (WasClosed i) event owed accepted stands =
    subst (λ e. monitor_tests.IsAccepted configuration (with_event e h)) (sym stands.0) accepted
accepted-step configuration h before (WasTold notice) event owed accepted stands =
    subst (λ e. monitor_tests.IsAccepted configuration (with_event e h)) (sym stands.2)
    (accepted, (refl, ap (λ notices. nat_lt 0 (length notices)) stands.1 ∙ lt-ltb 0 (suc (length stands.0)) (omega arith)))

monitor-accepted : (configuration : Configuration) (steps : List Step) (owed : Option ℕ) → Told configuration steps owed →
    monitor_tests.IsAccepted configuration (history_of steps)
monitor-accepted configuration [] owed told = tt
monitor-accepted configuration (step ∷ steps) owed told =
    accepted-step configuration (history_of steps) told.0 step.entry step.event owed (monitor-accepted configuration steps told.0 told.1) told.2

-- ---- all of them

module _ (setup : Setup) where
  ArePrompt : List Happening → Type 0
  ArePrompt run = (m : ℕ) → IsPrompt (monitor_of setup m) (history m run)

  IsAlone : List Happening → Type 0
  IsAlone run = (m : ℕ) → length setup.monitors ≤ m → history m run ≡ []

  prompt-before : (n : ℕ) (event : Event) (run : List Happening) → ArePrompt (AtMonitor n event ∷ run) → ArePrompt run
  unfolding ArePrompt
  prompt-before n event run all m = elim (cases_eq n m) [
    | inr ne ↦ subst (λ h. IsPrompt (monitor_of setup m) h) (history-other m n event run ne) (all m)
    | inl same ↦
        let now : history m (AtMonitor n event ∷ run) ≡ event ∷ history m run = rw (eq-eqb n m same) refl in
        let both : IsPrompt (monitor_of setup m) (event ∷ history m run) = subst (λ h. IsPrompt (monitor_of setup m) h) now (all m) in
        both.0
  ]

  alone-before : (n : ℕ) (event : Event) (run : List Happening) → IsAlone (AtMonitor n event ∷ run) → IsAlone run
  unfolding IsAlone
  alone-before n event run all m none = elim (cases_eq n m) [
    | inr ne ↦ sym (history-other m n event run ne) ∙ all m none
    | inl same ↦
        let now : history m (AtMonitor n event ∷ run) ≡ event ∷ history m run = rw (eq-eqb n m same) refl in
        let no : event ∷ history m run ≡ [] = sym now ∙ all m none in
        cc
  ]

  is-there : (m : ℕ) (event : Event) (run : List Happening) → IsAlone (AtMonitor m event ∷ run) → m < length setup.monitors
  unfolding IsAlone
  is-there m event run all = elim (cases_Bool (nat_lt m (length setup.monitors))) [
    | inl less ↦ ltb-true m (length setup.monitors) less
    | inr none ↦
        let no : event ∷ history m run ≡ [] = sym (history-own m event run) ∙ all m (ltb-false m (length setup.monitors) none) in
        cc
  ]

  now-prompt : (m : ℕ) (event : Event) (run : List Happening) → ArePrompt (AtMonitor m event ∷ run) → IsPromptAt (monitor_of setup m) (history m run) event
  unfolding ArePrompt
  now-prompt m event run all =
      let both : IsPrompt (monitor_of setup m) (event ∷ history m run) = subst (λ h. IsPrompt (monitor_of setup m) h) (history-own m event run) (all m) in
      both.1

  server-prompt : (event : _) (run : List Happening) → ArePrompt (AtServer event ∷ run) → ArePrompt run
  unfolding ArePrompt
  server-prompt event run all m = all m

  server-alone : (event : _) (run : List Happening) → IsAlone (AtServer event ∷ run) → IsAlone run
  unfolding IsAlone
  server-alone event run all m none = all m none

  ordered : (run : List Happening) → ArePrompt run → IsAlone run → AreOrdered setup run
  ordered [] prompt alone = tt
  ordered (AtServer event ∷ run) prompt alone = (ordered run (server-prompt event run prompt) (server-alone event run alone), tt)
  ordered (AtMonitor m event ∷ run) prompt alone = (
    ordered run (prompt-before m event run prompt) (alone-before m event run alone),
    (is-there m event run alone, now-prompt m event run prompt),
  )

  module _ (network : Network) (run : List Happening) (is : IsRun setup network run) where
    below : (m : ℕ) → (m < length setup.monitors) ⊎ (length setup.monitors ≤ m)
    below m = elim (cases_Bool (nat_lt m (length setup.monitors))) [
      | inl less ↦ inl (ltb-true m (length setup.monitors) less)
      | inr none ↦ inr (ltb-false m (length setup.monitors) none)
    ]

    are-prompt : ArePrompt run
    unfolding ArePrompt
    are-prompt m = elim (below m) [
      | inl there ↦
          let w = is.monitors m there in
          subst (λ h. IsPrompt (monitor_of setup m) h) w.3 (told-prompt (monitor_of setup m) w.0 w.1 w.2)
      | inr none ↦ subst (λ h. IsPrompt (monitor_of setup m) h) (sym (is.no_others m none)) tt
    ]

    are-alone : IsAlone run
    unfolding IsAlone
    are-alone m none = is.no_others m none

    pub are-ordered : AreOrdered setup run
    are-ordered = ordered run are-prompt are-alone

    pub accepted : IsAccepted setup run
    accepted = record {
      server = subst (λ h. server_tests.IsAccepted setup.server h) is.server.3 (server-accepted setup.server is.server.0 is.server.1 is.server.2);
      monitors = λ m. elim (below m) [
        | inl there ↦
            let w = is.monitors m there in
            subst (λ h. monitor_tests.IsAccepted (monitor_of setup m) h) w.3 (monitor-accepted (monitor_of setup m) w.0 w.1 w.2)
        | inr none ↦ subst (λ h. monitor_tests.IsAccepted (monitor_of setup m) h) (sym (is.no_others m none)) tt
      ];
    }
