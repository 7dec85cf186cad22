-- A room that runs follows a schedule.
use Rattle.nut_server_spec.proofs.Kept.{opened_lines, opened_reports}
use Rattle.nut_server_spec.proofs.Others.{closed-stays, opened-fresh}
use Rattle.std.proofs.Common.{◌≡◌, ◌⊎◌, ℕ, zero, suc, ◌<◌, ◌≤◌, ◌==◌, ◌&&◌, ◌||◌, min, append_assoc, length-append, Bool, true, false, inl, inr, List, [], ◌∷◌, ◌++◌, length, take, drop, Option, Some, None, is_some, refl, sym, ◌∙◌, ap, subst, arith}
use Rattle.std.specs.Prelude.{nat_lt, slice_index_or}
use Rattle.std.proofs.lemmas.Bool.{cases_Bool, cases_eq, and_parts, eqb-true, eq-eqb, ne_eqb, ltb-true, ltb-false, lt-ltb}
use Rattle.std.proofs.lemmas.Slice.Eq.{bytes_eq-Decides}
use Rattle.nut_words.specs.Quoting.{Begins}
use Rattle.nut_words.specs.declared.limits.TheConstants.{PIECE_MAX}
use Rattle.nut_server_spec.specs.Event as arrivals
use Rattle.nut_server_spec.specs.Trace.{opened}
use Rattle.nut_server_spec.specs.Acceptance as server_tests
use Rattle.nut_server_spec.specs.Content.{past}
use Rattle.nut_server_spec.specs.Content as server
use Rattle.nut_monitor_spec.specs.Configuration.{Configuration}
use Rattle.nut_monitor_spec.specs.Content.{content}
use Rattle.nut_monitor_spec.specs.Content as server_content
use Rattle.nut_monitor_spec.specs.Event.{Event, Moment, Linked, LinkBytes, LinkLost, LinkTook, OutOfMemory, NoticeTaken}
use Rattle.nut_monitor_spec.specs.Acceptance as monitor_tests
use Rattle.nut_monitor_spec.specs.Trace.{trace, linked, notices_waiting}
use Rattle.nut_monitor_spec.specs.Trace as monitor
use Rattle.nut_fleet.specs.Schedule.{Step, IsFront, MonitorClock, CutMonitor, Call, Accept, Write, Land, Reach, Other}
use Rattle.nut_fleet.specs.World.{Setup, World, Deed, Tell, Inform, Renew, Meet, no_monitor, monitor_of, seen, served, known, is_open, is_linked, tell, inform, carried, any_below, is_of_link, are_next, is_unknown, heeded, keeps_all, may_tell, has_link, deed, after, all_taken, informed, for_monitor, world}
use Rattle.nut_running.specs.Running.{Happening, AtServer, AtMonitor, server_history, history, calls, Network, IsNetwork, May}
use Rattle.nut_running.specs.Rooms.{Has}
use Rattle.nut_fleet.proofs.Fronts.{begins-then, begins-nothing, drop-front, length-0}
use Rattle.nut_monitor_spec.specs.declared.MonitorFault.{MonitorFault}
use Rattle.nut_monitor_spec.specs.declared.Notice.{Notice}
use Rattle.nut_monitor_spec.proofs.Kept.{keeps-content}
use Rattle.nut_monitor_spec.proofs.Answering.{linked-made}
use Rattle.nut_monitor_spec.proofs.Lists.{found_within}
use Rattle.nut_fleet.proofs.Exchanges.{silent-sent}
use Rattle.nut_fleet.specs.Moves.{makes}
use Rattle.nut_fleet.proofs.Moves.{taken-same-link, linked-before, IsSame, still-open}
use Rattle.nut_fleet.proofs.Server.{is_of, opened-grows, unopened-input, other-input}
use Rattle.nut_fleet.proofs.Steps.{for-own, for-other, line-within, zero-closed}
use Rattle.nut_running.proofs.Calls.{sent_on, calls-same, calls-made, calls-grow, sent_on-later, sent_on-now, sent_on-other, sent_on-past, sent_on-grows, sent_on-front}

-- ---- what the loops say of a run

-- the server and the monitors accepted their events
pub record IsAccepted (setup : Setup) (run : List Happening) : Type 0 where
  pub server : server_tests.IsAccepted setup.server (server_history run)
  pub monitors : (m : ℕ) → monitor_tests.IsAccepted (monitor_of setup m) (history m run)

-- no notice waits at this event, unless one is taken by it
abbrev pub IsPromptAt : Configuration → List Event → Event → Type 0
IsPromptAt configuration h NoticeTaken = Unit {0}
IsPromptAt configuration h event = notices_waiting (trace configuration h) ≡ []

-- each event of a monitor is that of a monitor of the room, and comes once its notices have been handed over
abbrev pub IsOrdered : Setup → List Happening → Happening → Type 0
IsOrdered setup run (AtServer event) = Unit {0}
IsOrdered setup run (AtMonitor m event) = (m < length setup.monitors) × IsPromptAt (monitor_of setup m) (history m run) event

-- each happening may follow those before it
abbrev pub IsCarried : Setup → Network → List Happening → Type 0
IsCarried setup network run = (next : Happening) (so_far : List Happening) → IsFront (next ∷ so_far) run → May setup network so_far next

may-last : (setup : Setup) (network : Network) (next : Happening) (run : List Happening) → IsCarried setup network (next ∷ run) → May setup network run next
may-last setup network next run carried = carried next run (inl refl)

carried-before : (setup : Setup) (network : Network) (next : Happening) (run : List Happening) → IsCarried setup network (next ∷ run) → IsCarried setup network run
carried-before setup network next run carried other so_far older = carried other so_far (inr older)

-- ---- histories

-- the history of monitor m once the notices that wait have been handed over
abbrev pub quiet_history : Setup → ℕ → List Happening → List Event
quiet_history setup m run = all_taken (notices_waiting (trace (monitor_of setup m) (history m run))) (history m run)

pub history-own : (m : ℕ) (event : Event) (run : List Happening) → history m (AtMonitor m event ∷ run) ≡ event ∷ history m run
history-own m event run = rw (eq-eqb m m refl) refl

pub history-other : (m n : ℕ) (event : Event) (run : List Happening) → (n ≡ m → ⊥) → history m (AtMonitor n event ∷ run) ≡ history m run
history-other m n event run ne = rw (ne_eqb n m ne) refl

-- what came on a connection is a beginning of what was sent on the link whose end it is
module _ (setup : Setup) (joined : Network) where
  accepted-before : (happening : Happening) (run : List Happening) → IsAccepted setup (happening ∷ run) → IsAccepted setup run
  accepted-before (AtServer event) run a = record { server = a.server.0; monitors = a.monitors }
  accepted-before (AtMonitor n event) run a = record {
    server = a.server;
    monitors = λ m. elim (cases_eq n m) [
      | inl same ↦
          let now : history m (AtMonitor n event ∷ run) ≡ event ∷ history m run = rw (eq-eqb n m same) refl in
          let all : monitor_tests.IsAccepted (monitor_of setup m) (event ∷ history m run) =
          subst (λ h. monitor_tests.IsAccepted (monitor_of setup m) h) now (a.monitors m) in
          all.0
      | inr ne ↦ subst (λ h. monitor_tests.IsAccepted (monitor_of setup m) h) (history-other m n event run ne) (a.monitors m)
    ];
  }

  Carried : List Happening → Type 0
  Carried run = (m i k c : ℕ) → has_link setup m i ≡ true → joined m i k ≡ Some c →
      Begins (arrivals.input c (server_history run)) (sent_on (monitor_of setup m) i k (history m run))

  -- a piece on the connection of a call is the next that was sent in that call
  pub continues : (c : ℕ) (piece : List ℕ) (run : List Happening) → IsAccepted setup run → May setup joined run (AtServer (arrivals.Bytes c piece)) →
      (m i k : ℕ) → has_link setup m i ≡ true → joined m i k ≡ Some c →
      (piece ≡ [] → ⊥) × Begins (arrivals.input c (server_history run) ++ piece) (sent_on (monitor_of setup m) i k (history m run))
  continues c piece run accepted may m i k there is =
      let found = may m i k is in
      let begins : Begins (monitor.sent (monitor_of setup m) i (trace (monitor_of setup m) found.0)) (sent_on (monitor_of setup m) i k (history m run)) =
      sent_on-front setup m i k found.0 (history m run) (accepted.monitors m) (line-within setup m i there) found.1 found.2 in
      (found.3.0, begins-then _ _ _ found.3.1 begins)

  carried-server : (event : arrivals.Event) (run : List Happening) → IsAccepted setup run → May setup joined run (AtServer event) → Carried run →
      Carried (AtServer event ∷ run)
  unfolding Carried
  carried-server (arrivals.Bytes d piece) run accepted may before m i k c there is = elim (cases_Bool (d == c)) [
    | inl same ↦
        let equal : d ≡ c = eqb-true d c same in
        rw same
        (subst (λ x. Begins (arrivals.input x (server_history run) ++ piece) (sent_on (monitor_of setup m) i k (history m run))) equal
        (continues d piece run accepted may m i k there (is ∙ ap (λ x. Some x) (sym equal))).1)
    | inr other ↦ rw other (before m i k c there is)
  ]
  carried-server event run accepted may before m i k c there is = before m i k c there is

  carried-monitor : (n : ℕ) (event : Event) (run : List Happening) → IsAccepted setup (AtMonitor n event ∷ run) → Carried run → Carried (AtMonitor n event ∷ run)
  unfolding Carried
  carried-monitor n event run accepted before m i k c there is = elim (cases_eq n m) [
    | inr ne ↦
        subst (λ h. Begins (arrivals.input c (server_history run)) (sent_on (monitor_of setup m) i k h)) (sym (history-other m n event run ne))
        (before m i k c there is)
    | inl same ↦
        let now : history m (AtMonitor n event ∷ run) ≡ event ∷ history m run = rw (eq-eqb n m same) refl in
        let all : monitor_tests.IsAccepted (monitor_of setup m) (event ∷ history m run) =
        subst (λ h. monitor_tests.IsAccepted (monitor_of setup m) h) now (accepted.monitors m) in
        subst (λ h. Begins (arrivals.input c (server_history run)) (sent_on (monitor_of setup m) i k h)) (sym now)
        (begins-then _ _ _ (before m i k c there is) (sent_on-grows setup m i k event (history m run) all (line-within setup m i there)))
  ]

  nothing : Carried []
  unfolding Carried
  nothing m i k c there joins = begins-nothing (sent_on (monitor_of setup m) i k [])

  came-in : (run : List Happening) → IsCarried setup joined run → IsAccepted setup run → Carried run
  came-in [] is accepted = nothing
  came-in (AtServer event ∷ run) is accepted =
      let earlier = accepted-before (AtServer event) run accepted in
      carried-server event run earlier (may-last setup joined (AtServer event) run is) (came-in run (carried-before setup joined (AtServer event) run is) earlier)
  came-in (AtMonitor n event ∷ run) is accepted =
      carried-monitor n event run accepted
      (came-in run (carried-before setup joined (AtMonitor n event) run is) (accepted-before (AtMonitor n event) run accepted))

-- ---- a world that a run leads to

-- the server has closed a connection, on which nothing came
pub record IsGone (setup : Setup) (h : List arrivals.Event) (c : ℕ) : Type 0 where
  pub opened : c ≤ opened (past setup.server h)
  pub silent : arrivals.input c h ≡ []
  pub closed : server_tests.session_of c (server.content setup.server h).sessions ≡ None

-- a connection that was given up is the end of a link that has been made again since
abbrev pub IsOld : Setup → Network → List Happening → ℕ → List ℕ → Type 0
IsOld setup joined run c bytes = (c ≡ 0) ⊎ ((m i k : ℕ) × (joined m i k ≡ Some c) × (k < calls i (history m run))
    × (bytes ≡ sent_on (monitor_of setup m) i k (history m run)) × (has_link setup m i ≡ true))

pub record Follows (setup : Setup) (joined : Network) (run : List Happening) (w : World) : Type 0 where
  pub server : w.server ≡ server_history run
  pub monitors : (m : ℕ) → w.monitor m ≡ quiet_history setup m run
  pub other_end : (m i : ℕ) → (w.connection m i ≡ 0) ⊎ (joined m i (calls i (history m run)) ≡ Some (w.connection m i))
  pub bound : (m i : ℕ) → w.connection m i ≤ opened (past setup.server (server_history run))
  pub met : (m i c : ℕ) → joined m i (calls i (history m run)) ≡ Some c → linked i (trace (monitor_of setup m) (history m run)) ≡ true →
      c ≤ opened (past setup.server (server_history run)) → (w.connection m i ≡ c) ⊎ IsGone setup (server_history run) c
  pub given : (c : ℕ) (bytes : List ℕ) → w.given_up c ≡ Some bytes → IsOld setup joined run c bytes

-- ---- the server's events

abbrev pub is_opening : arrivals.Event → Bool
is_opening (arrivals.Open address) = true
is_opening event = false

opened-same : (setup : Setup) (event : arrivals.Event) (h : List arrivals.Event) → is_opening event ≡ false →
    opened (past setup.server (event ∷ h)) ≡ opened (past setup.server h)
opened-same setup event h is = grind (arith, opened_lines, opened_reports)

refused : (piece : List ℕ) (o : Option server.Session) → o ≡ None → server_tests.bytes_refusal piece o ≡ None → ⊥
refused piece None none ok = cc
refused piece (Some k) none ok = cc

-- a connection that is gone stays so
gone-stays : (setup : Setup) (h : List arrivals.Event) (event : arrivals.Event) (c : ℕ) → server_tests.IsAccepted setup.server (event ∷ h) →
    IsGone setup h c → IsGone setup (event ∷ h) c
gone-stays setup h event c accepted gone = record {
  opened = let more = opened-grows setup.server event h in let le = gone.opened in omega arith;
  silent = elim (cases_Bool (is_of c event)) [
    | inr other ↦ other-input c event h other ∙ gone.silent
    | inl own ↦ absurd (by event own accepted.1)
  ];
  closed = closed-stays setup.server h event c accepted gone.opened gone.closed;
}
  where
    by : (e : arrivals.Event) → is_of c e ≡ true → server_tests.refusal (server.content setup.server h) e ≡ None → ⊥
    by (arrivals.Bytes d piece) own ok =
        let same : d ≡ c = eqb-true d c own in
        let none : server_tests.session_of d (server.content setup.server h).sessions ≡ None =
        ap (λ x. server_tests.session_of x (server.content setup.server h).sessions) same ∙ gone.closed in
        refused piece (server_tests.session_of d (server.content setup.server h).sessions) none ok
    by e own ok = cc

-- a connection that had been opened before or is opened now
follows-told : (setup : Setup) (joined : Network) (run : List Happening) (w : World) (event : arrivals.Event) (connection : ℕ → ℕ → ℕ) →
    server_tests.IsAccepted setup.server (event ∷ server_history run) →
    Follows setup joined run w →
    ((m i : ℕ) → (connection m i ≡ w.connection m i) ⊎
    ((connection m i ≡ opened (past setup.server (event ∷ server_history run))) × (joined m i (calls i (history m run)) ≡ Some (connection m i)))) →
    ((m i c : ℕ) → joined m i (calls i (history m run)) ≡ Some c → linked i (trace (monitor_of setup m) (history m run)) ≡ true →
    opened (past setup.server (server_history run)) < c → c ≤ opened (past setup.server (event ∷ server_history run)) → connection m i ≡ c) →
    Follows setup joined (AtServer event ∷ run) (record { server = event ∷ w.server; monitor = w.monitor; connection = connection; given_up = w.given_up })
follows-told setup joined run w event connection accepted f either fresh = record {
  server = ap (λ h. event ∷ h) f.server;
  monitors = f.monitors;
  other_end = λ m i. elim (either m i) [
    | inl old ↦ elim (f.other_end m i) [
      | inl none ↦ inl (old ∙ none)
      | inr is ↦ inr (is ∙ ap (λ c. Some c) (sym old))
    ]
    | inr new ↦ inr new.1
  ];
  bound = λ m i. elim (either m i) [
    | inl old ↦ let le = f.bound m i in let more = opened-grows setup.server event (server_history run) in omega arith
    | inr new ↦ let e = new.0 in omega arith
  ];
  met = λ m i c is up le. elim (before-or-now c (opened (past setup.server (server_history run)))) [
    | inr late ↦ inl (fresh m i c is up late le)
    | inl early ↦ elim (f.met m i c is up early) [
      | inr gone ↦ inr (gone-stays setup (server_history run) event c accepted gone)
      | inl was ↦ elim (either m i) [
        | inl old ↦ inl (old ∙ was)
        | inr new ↦ let same : Some (connection m i) ≡ Some c = sym new.1 ∙ is in inl (some-same (connection m i) c same)
      ]
    ]
  ];
  given = f.given;
}
  where
    before-or-now : (c n : ℕ) → (c ≤ n) ⊎ (n < c)
    before-or-now c n = elim (cases_Bool (nat_lt n c)) [
      | inl less ↦ inr (ltb-true n c less)
      | inr le ↦ inl (ltb-false n c le)
    ]

    some-same : (a b : ℕ) → Some a ≡ Some b → a ≡ b
    some-same a b e = cc

-- others have the server told something
played-other : (setup : Setup) (w : World) (event : arrivals.Event) → heeded setup.server event ≡ event → may_tell setup w event ≡ true →
    server_tests.refusal (served setup w) event ≡ None → deed setup w (Other event) ≡ Tell event
played-other setup w event heeds may accepted = rw (heeds, may, accepted) refl

carried-some : (bytes : List ℕ) (d : List ℕ → Deed) → (bytes ≡ [] → ⊥) → carried bytes d ≡ d bytes
carried-some [] d some = absurd (some refl)
carried-some (byte ∷ bytes) d some = refl

take-front : (x more : List ℕ) → take (length x) (x ++ more) ≡ x
take-front [] more = refl
take-front (a ∷ x) more = ap (λ y. a ∷ y) (take-front x more)

front-piece : (came piece sent : List ℕ) → Begins (came ++ piece) sent → take (length piece) (drop (length came) sent) ≡ piece
front-piece came piece sent b = rw (b.1, append_assoc came piece b.0, drop-front came (piece ++ b.0), take-front piece b.0) refl

-- a piece at the front of what was sent and hasn't come yet
next-piece : (came piece sent : List ℕ) → Begins (came ++ piece) sent → length piece ≤ PIECE_MAX →
    take (min (length piece) PIECE_MAX) (drop (length came) sent) ≡ piece
next-piece came piece sent b few = ap (λ n. take n (drop (length came) sent)) (min-left (length piece) PIECE_MAX few) ∙ front-piece came piece sent b
  where
    min-left : (a n : ℕ) → a ≤ n → min a n ≡ a
    min-left a n le = omega arith

-- bytes of a link reach the server
played-reach : (setup : Setup) (w : World) (m i : ℕ) (piece : List ℕ) → has_link setup m i ≡ true → is_open setup w m i ≡ true → (piece ≡ [] → ⊥) →
    take (min (length piece) PIECE_MAX) (drop (length (arrivals.input (w.connection m i) w.server)) (monitor.sent (monitor_of setup m) i (seen setup w m))) ≡ piece →
    server_tests.refusal (served setup w) (arrivals.Bytes (w.connection m i) piece) ≡ None →
    deed setup w (Reach m i (length piece)) ≡ Tell (arrivals.Bytes (w.connection m i) piece)
played-reach setup w m i piece there up some next accepted =
    rw (there, up, next, carried-some piece (λ bytes. tell setup w (arrivals.Bytes (w.connection m i) bytes)) some, accepted) refl

-- bytes of a link reach its monitor
played-land : (setup : Setup) (w : World) (m i : ℕ) (piece : List ℕ) → has_link setup m i ≡ true → is_linked setup w m i ≡ true → (piece ≡ [] → ⊥) →
    take (min (length piece) PIECE_MAX) (drop (length (monitor.input i (seen setup w m))) (server.sent setup.server (w.connection m i) w.server)) ≡ piece →
    monitor_tests.refusal (known setup w m) (LinkBytes i piece) ≡ None →
    deed setup w (Land m i (length piece)) ≡ Inform m (LinkBytes i piece)
played-land setup w m i piece there up some next accepted =
    rw (there, up, next, carried-some piece (λ bytes. inform setup w m (LinkBytes i bytes)) some, accepted) refl

played-moment : (setup : Setup) (w : World) (m t : ℕ) → nat_lt m (length setup.monitors) ≡ true → monitor_tests.refusal (known setup w m) (Moment t) ≡ None →
    deed setup w (MonitorClock m t) ≡ Inform m (Moment t)
played-moment setup w m t there accepted = rw (there, accepted) refl

played-lost : (setup : Setup) (w : World) (m i : ℕ) → has_link setup m i ≡ true → monitor_tests.refusal (known setup w m) (LinkLost i) ≡ None →
    deed setup w (CutMonitor m i) ≡ Inform m (LinkLost i)
played-lost setup w m i there accepted = rw (there, accepted) refl

played-write : (setup : Setup) (w : World) (m i n : ℕ) → has_link setup m i ≡ true → monitor_tests.refusal (known setup w m) (LinkTook i n) ≡ None →
    deed setup w (Write m i n) ≡ Inform m (LinkTook i n)
played-write setup w m i n there accepted = rw (there, accepted) refl

played-call : (setup : Setup) (w : World) (m i : ℕ) → has_link setup m i ≡ true → monitor_tests.refusal (known setup w m) (Linked i) ≡ None →
    deed setup w (Call m i) ≡ Renew m i
played-call setup w m i there accepted = rw (there, accepted) refl

played-accept : (setup : Setup) (w : World) (m i c : ℕ) → has_link setup m i ≡ true → w.connection m i ≡ 0 → is_unknown setup w c ≡ true →
    deed setup w (Accept m i c) ≡ Meet m i c
played-accept setup w m i c there none may = rw (there, eq-eqb (w.connection m i) 0 none, may) refl

-- ---- what accepted pieces say

server-bytes : (piece : List ℕ) (o : Option server.Session) → server_tests.bytes_refusal piece o ≡ None → (is_some o ≡ true) × (length piece ≤ PIECE_MAX)
server-bytes piece o accepted = grind (arith, ltb-false)

monitor-bytes : (s : server_content.Content) (piece : List ℕ) (o : Option server_content.Watch) → monitor_tests.bytes_refusal s piece o ≡ None →
    (monitor_tests.is_linked o ≡ true) × (length piece ≤ PIECE_MAX)
monitor-bytes s piece o accepted = grind (arith, ltb-false)

-- An event of a link has a line, if the test refuses it where there is none.
line-of : (configuration : Configuration) (told : List Event) (i : ℕ) (test : Option server_content.Watch → Option MonitorFault) →
    (test None ≡ None → ⊥) → test (monitor_tests.watch_at i (content configuration told).watches) ≡ None → i < length configuration.lines
line-of configuration told i test refuses ok = by (monitor_tests.watch_at i (content configuration told).watches) refl
  where
    by : (o : Option server_content.Watch) → monitor_tests.watch_at i (content configuration told).watches ≡ o → i < length configuration.lines
    by None is = absurd (refuses (ap test (sym is) ∙ ok))
    by (Some watch) is = found_within i (server_content.watch configuration (trace configuration told)) configuration.lines watch is

-- A link that is up has a line.
line-up : (setup : Setup) (m i : ℕ) (h : List Event) → monitor_tests.IsAccepted (monitor_of setup m) h → linked i (trace (monitor_of setup m) h) ≡ true →
    i < length (monitor_of setup m).lines
line-up setup m i [] accepted up = cc
line-up setup m i (event ∷ h) accepted up = elim (cases_Bool (makes i event)) [
  | inr same ↦ line-up setup m i h accepted.0 (linked-before setup m i h event same up)
  | inl fresh ↦ made event fresh accepted.1.0
]
  where
    made : (e : Event) → makes i e ≡ true → monitor_tests.refusal (content (monitor_of setup m) h) e ≡ None → i < length (monitor_of setup m).lines
    made (Linked j) fresh ok =
        subst (λ x. x < length (monitor_of setup m).lines) (eqb-true j i fresh) (line-of (monitor_of setup m) h j monitor_tests.linked_refusal (λ no. cc) ok)
    made e fresh ok = cc

-- a number with a line is that of a monitor
has-monitor : (monitors : List Configuration) (m i : ℕ) → i < length (slice_index_or monitors m no_monitor).lines → m < length monitors
has-monitor [] m i less = absurd (omega (arith, less))
has-monitor (monitor ∷ monitors) zero i less = omega arith
has-monitor (monitor ∷ monitors) (suc m) i less = let rest = has-monitor monitors m i less in omega (arith, rest)

-- ---- searches

some-below : (n : ℕ) (test : ℕ → Bool) → any_below n test ≡ true → (k : ℕ) × (k < n) × (test k ≡ true)
some-below zero test some = cc
some-below (suc n) test some = elim (cases_Bool (test n)) [
  | inl here ↦ (n, omega arith, here)
  | inr other ↦
      let found = some-below n test (rw other at some) in
      (found.0, (let lt = found.1 in omega arith), found.2)
]

none-below : (n : ℕ) (test : ℕ → Bool) (k : ℕ) → any_below n test ≡ false → k < n → test k ≡ false
none-below zero test k none less = absurd (omega (arith, less))
none-below (suc n) test k none less =
    let parts = either-false (test n) (any_below n test) none in
    elim (cases_eq k n) [
      | inl same ↦ ap test same ∙ parts.0
      | inr ne ↦ none-below n test k parts.1 (omega arith)
    ]
  where
    either-false : (a b : Bool) → (a || b) ≡ false → (a ≡ false) × (b ≡ false)
    either-false a b is = grind arith

-- a link of the setup that passes a test, or that none does
pub find-link : (setup : Setup) (test : ℕ → ℕ → Bool) →
    ((m : ℕ) × (i : ℕ) × (has_link setup m i ≡ true) × (test m i ≡ true)) ⊎ ((m i : ℕ) → has_link setup m i ≡ true → test m i ≡ false)
find-link setup test = elim (cases_Bool (any_below (length setup.monitors) (λ m. any_below (length (monitor_of setup m).lines) (test m)))) [
  | inl some ↦
      let found = some-below (length setup.monitors) (λ m. any_below (length (monitor_of setup m).lines) (test m)) some in
      let inner = some-below (length (monitor_of setup found.0).lines) (test found.0) found.2 in
      inl (found.0, inner.0, both found.0 inner.0 found.1 inner.1, inner.2)
  | inr none ↦ inr (λ m i there.
      let parts = and_parts (nat_lt m (length setup.monitors)) (nat_lt i (length (monitor_of setup m).lines)) there in
      none-below (length (monitor_of setup m).lines) (test m) i
      (none-below (length setup.monitors) (λ k. any_below (length (monitor_of setup k).lines) (test k)) m none (ltb-true m (length setup.monitors) parts.0))
      (ltb-true i (length (monitor_of setup m).lines) parts.1))
]
  where
    both : (m i : ℕ) → m < length setup.monitors → i < length (monitor_of setup m).lines → has_link setup m i ≡ true
    both m i lm li = rw (lt-ltb m (length setup.monitors) lm, lt-ltb i (length (monitor_of setup m).lines) li) refl

-- ---- ends

abbrev pub with_end : (ℕ → ℕ → ℕ) → ℕ → ℕ → ℕ → ℕ → ℕ → ℕ
with_end g m i c = for_monitor m (for_monitor i c (g m)) g

ends : (g : ℕ → ℕ → ℕ) (m i c n j : ℕ) → ((n ≡ m) × (j ≡ i) × (with_end g m i c n j ≡ c)) ⊎ (((n ≡ m) × (j ≡ i) → ⊥) × (with_end g m i c n j ≡ g n j))
ends g m i c n j = elim (cases_eq n m) [
  | inl same ↦ elim (cases_eq j i) [
    | inl equal ↦ inl (same, equal, rw (eq-eqb n m same, eq-eqb j i equal) refl)
    | inr ne ↦ inr ((λ both. ne both.1), rw (eq-eqb n m same, ne_eqb j i ne) (ap (λ x. g x j) (sym same)))
  ]
  | inr ne ↦ inr ((λ both. ne both.0), rw (ne_eqb n m ne) refl)
]

not-less : (a b : ℕ) → b ≤ a → nat_lt a b ≡ false
not-less a b le = elim (cases_Bool (nat_lt a b)) [
  | inl less ↦ let lt = ltb-true a b less in absurd (omega arith)
  | inr is ↦ is
]

all-none : (n : ℕ) (test : ℕ → Bool) → ((k : ℕ) → k < n → test k ≡ false) → any_below n test ≡ false
all-none zero test none = refl
all-none (suc n) test none = rw (none n (omega arith)) (all-none n test (λ k less. none k (omega arith)))

-- a connection that is no link's
no-link : (setup : Setup) (v : World) (c : ℕ) → ((m i : ℕ) → has_link setup m i ≡ true → (c == v.connection m i) ≡ false) → is_of_link setup v c ≡ false
no-link setup v c none =
    all-none (length setup.monitors) (λ m. any_below (length (monitor_of setup m).lines) (λ i. c == v.connection m i))
    (λ m lm. all-none (length (monitor_of setup m).lines) (λ i. c == v.connection m i)
    (λ i li. none m i (rw (lt-ltb m (length setup.monitors) lm, lt-ltb i (length (monitor_of setup m).lines) li) refl)))

unknown : (setup : Setup) (v : World) (c : ℕ) → (server_tests.session_of c (served setup v).sessions ≡ None → ⊥) → arrivals.input c v.server ≡ [] →
    ((n j : ℕ) → has_link setup n j ≡ true → (c == v.connection n j) ≡ false) → v.given_up c ≡ None → is_unknown setup v c ≡ true
unknown setup v c there silent other kept =
    rw (still-open (server_tests.session_of c (served setup v).sessions) there, silent, no-link setup v c other, kept) refl

none-some : {A : Type 0} (o : Option A) (x : A) → o ≡ None → o ≡ Some x → ⊥
none-some o x none some = cc

begun-by-nothing : (x : List ℕ) → Begins x [] → x ≡ []
begun-by-nothing x b = length-0 x (let n = ap length b.1 ∙ length-append x b.0 in omega arith)

-- no bytes are behind others at the beginning of nothing
nothing-left : (came piece : List ℕ) → Begins (came ++ piece) [] → piece ≡ []
nothing-left came piece b = length-0 piece (let n = ap length b.1 ∙ length-append (came ++ piece) b.0 in let k = length-append came piece in omega arith)

-- ---- one happening more

-- a longer schedule follows the run with one happening more
pub record Extends (setup : Setup) (joined : Network) (run : List Happening) (earlier : List Step) : Type 0 where
  pub schedule : List Step
  pub follows : Follows setup joined run (world setup schedule)
  pub fronts : (early : List Step) → IsFront early schedule → IsFront early earlier ⊎ Has setup run (world setup early)

has-of : (setup : Setup) (joined : Network) (run : List Happening) (w : World) → Follows setup joined run w → Has setup run w
has-of setup joined run w f = record { server = f.server; monitors = f.monitors }

-- by no step, by one, and by two
by-none : (setup : Setup) (joined : Network) (run : List Happening) (earlier : List Step) → Follows setup joined run (world setup earlier) → Extends setup joined run earlier
by-none setup joined run earlier f = record { schedule = earlier; follows = f; fronts = λ early is. inl is }

by-one : (setup : Setup) (joined : Network) (run : List Happening) (earlier : List Step) (step : Step) → Follows setup joined run (world setup (step ∷ earlier)) →
    Extends setup joined run earlier
by-one setup joined run earlier step f = record { schedule = step ∷ earlier; follows = f; fronts = found }
  where
    found : (early : List Step) → IsFront early (step ∷ earlier) → IsFront early earlier ⊎ Has setup run (world setup early)
    found early (inl now) = inr (subst (λ s. Has setup run (world setup s)) (sym now) (has-of setup joined run (world setup (step ∷ earlier)) f))
    found early (inr older) = inl older

by-two : (setup : Setup) (joined : Network) (run : List Happening) (earlier : List Step) (second first : Step) →
    Follows setup joined run (world setup (second ∷ first ∷ earlier)) → Has setup run (world setup (first ∷ earlier)) → Extends setup joined run earlier
by-two setup joined run earlier second first f between = record { schedule = second ∷ first ∷ earlier; follows = f; fronts = found }
  where
    found : (early : List Step) → IsFront early (second ∷ first ∷ earlier) → IsFront early earlier ⊎ Has setup run (world setup early)
    found early (inl now) = inr (subst (λ s. Has setup run (world setup s)) (sym now) (has-of setup joined run (world setup (second ∷ first ∷ earlier)) f))
    found early (inr (inl now)) = inr (subst (λ s. Has setup run (world setup s)) (sym now) between)
    found early (inr (inr older)) = inl older

module _ (setup : Setup) (joined : Network) (fine : IsNetwork joined) (run : List Happening) (is_run : IsCarried setup joined run) (accepted : IsAccepted setup run)
    (schedule : List Step) (f : Follows setup joined run (world setup schedule)) where
  abbrev w : World
  w = world setup schedule

  abbrev h : List arrivals.Event
  h = server_history run

  abbrev config : ℕ → Configuration
  config m = monitor_of setup m

  link-there : (m i : ℕ) → i < length (config m).lines → has_link setup m i ≡ true
  link-there m i within = rw (lt-ltb m (length setup.monitors) (has-monitor setup.monitors m i within), lt-ltb i (length (monitor_of setup m).lines) within) refl

  up-there : (m i : ℕ) → linked i (trace (config m) (history m run)) ≡ true → has_link setup m i ≡ true
  up-there m i up = link-there m i (line-up setup m i (history m run) (accepted.monitors m) up)

  -- the world has the server's content
  at-server : (event : arrivals.Event) → server_tests.refusal (server.content setup.server h) event ≡ None → server_tests.refusal (served setup w) event ≡ None
  at-server event ok = ap (λ x. server_tests.refusal (server.content setup.server x) event) f.server ∙ ok

  -- of each link what the monitor's history says
  same : (m i : ℕ) → has_link setup m i ≡ true → IsSame setup m i (history m run) (w.monitor m)
  same m i there =
      subst (λ x. IsSame setup m i (history m run) x) (sym (f.monitors m))
      (taken-same-link setup m i (notices_waiting (trace (config m) (history m run))) (history m run) (accepted.monitors m) (line-within setup m i there) refl)

  came-of : (m i k c : ℕ) → has_link setup m i ≡ true → joined m i k ≡ Some c → Begins (arrivals.input c h) (sent_on (config m) i k (history m run))
  unfolding Carried
  came-of m i k c there is = came-in setup joined run is_run accepted m i k c there is

  not-zero : (c : ℕ) (piece : List ℕ) → server_tests.refusal (server.content setup.server h) (arrivals.Bytes c piece) ≡ None → c ≡ 0 → ⊥
  not-zero c piece ok nil =
      let none : server_tests.session_of c (server.content setup.server h).sessions ≡ None =
      ap (λ x. server_tests.session_of x (server.content setup.server h).sessions) nil ∙ zero-closed setup h in
      let up = (server-bytes piece (server_tests.session_of c (server.content setup.server h).sessions) ok).0 in
      let down : is_some (server_tests.session_of c (server.content setup.server h).sessions) ≡ false = rw none refl in
      let no : true ≡ false = sym up ∙ down in
      cc

  -- the server's event as others bring it
  by-other : (event : arrivals.Event) → is_opening event ≡ false → heeded setup.server event ≡ event → may_tell setup w event ≡ true →
      server_tests.refusal (server.content setup.server h) event ≡ None → Extends setup joined (AtServer event ∷ run) schedule
  by-other event plain heeds may ok =
      by-one setup joined (AtServer event ∷ run) schedule (Other event)
      (subst (λ d. Follows setup joined (AtServer event ∷ run) (after setup w d)) (sym (played-other setup w event heeds may (at-server event ok)))
      (follows-told setup joined run w event w.connection (accepted.server, ok) f (λ m i. inl refl)
      (λ m i c is up late le. let e = opened-same setup event h plain in absurd (omega arith))))

  by-link : (m i c : ℕ) (piece : List ℕ) → has_link setup m i ≡ true → w.connection m i ≡ c → May setup joined run (AtServer (arrivals.Bytes c piece)) →
      server_tests.refusal (server.content setup.server h) (arrivals.Bytes c piece) ≡ None → Extends setup joined (AtServer (arrivals.Bytes c piece) ∷ run) schedule
  by-link m i c piece there is may ok = elim (f.other_end m i) [
    | inl none ↦ absurd (not-zero c piece ok (sym is ∙ none))
    | inr joins ↦
        let known_by = same m i there in
        let sizes = server-bytes piece (server_tests.session_of c (server.content setup.server h).sessions) ok in
        let more = continues setup joined c piece run accepted may m i (calls i (history m run)) there (joins ∙ ap (λ x. Some x) is) in
        let now : Begins (arrivals.input c h ++ piece) (monitor.sent (config m) i (seen setup w m)) =
        subst (λ x. Begins (arrivals.input c h ++ piece) x) (sent_on-now setup m i (calls i (history m run)) (history m run) refl ∙ sym known_by.sent) more.1 in
        let next : take (min (length piece) PIECE_MAX) (drop (length (arrivals.input (w.connection m i) w.server)) (monitor.sent (config m) i (seen setup w m))) ≡ piece =
        ap (λ x. take (min (length piece) PIECE_MAX) (drop (length (arrivals.input x w.server)) (monitor.sent (config m) i (seen setup w m)))) is
        ∙ ap (λ x. take (min (length piece) PIECE_MAX) (drop (length (arrivals.input c x)) (monitor.sent (config m) i (seen setup w m)))) f.server
        ∙ next-piece (arrivals.input c h) piece (monitor.sent (config m) i (seen setup w m)) now sizes.1 in
        let up : is_open setup w m i ≡ true =
        ap (λ x. is_some (server_tests.session_of x (served setup w).sessions)) is
        ∙ ap (λ x. is_some (server_tests.session_of c (server.content setup.server x).sessions)) f.server ∙ sizes.0 in
        let deed_is = played-reach setup w m i piece there up more.0 next
        (subst (λ x. server_tests.refusal (served setup w) (arrivals.Bytes x piece) ≡ None) (sym is) (at-server (arrivals.Bytes c piece) ok)) in
        by-one setup joined (AtServer (arrivals.Bytes c piece) ∷ run) schedule (Reach m i (length piece))
        (subst (λ d. Follows setup joined (AtServer (arrivals.Bytes c piece) ∷ run) (after setup w d)) (sym (deed_is ∙ ap (λ x. Tell (arrivals.Bytes x piece)) is))
        (follows-told setup joined run w (arrivals.Bytes c piece) w.connection (accepted.server, ok) f (λ m i. inl refl)
        (λ n j d is up late le. let e = opened-same setup (arrivals.Bytes c piece) h refl in absurd (omega arith))))
  ]

  by-bytes : (c : ℕ) (piece : List ℕ) → May setup joined run (AtServer (arrivals.Bytes c piece)) →
      server_tests.refusal (server.content setup.server h) (arrivals.Bytes c piece) ≡ None → Extends setup joined (AtServer (arrivals.Bytes c piece) ∷ run) schedule
  by-bytes c piece may ok = elim (find-link setup (λ m i. c == w.connection m i)) [
    | inl found ↦ by-link found.0 found.1 c piece found.2 (sym (eqb-true c (w.connection found.0 found.1) found.3)) may ok
    | inr none ↦ by-other (arrivals.Bytes c piece) refl refl (of-none none) ok
  ]
    where
      -- the next bytes on a connection that was given up
      next : (o : Option (List ℕ)) → w.given_up c ≡ o → are_next w c piece o ≡ true
      next None is = refl
      next (Some bytes) is = elim (f.given c bytes is) [
        | inl nil ↦ absurd (not-zero c piece ok nil)
        | inr old ↦
            let begins : Begins (arrivals.input c h ++ piece) bytes =
            subst (λ x. Begins (arrivals.input c h ++ piece) x) (sym old.5) (continues setup joined c piece run accepted may old.0 old.1 old.2 old.6 old.3).1 in
            (bytes_eq-Decides _ _).1
            (sym (ap (λ x. take (length piece) (drop (length (arrivals.input c x)) bytes)) f.server ∙ front-piece (arrivals.input c h) piece bytes begins))
      ]

      of-none : ((m i : ℕ) → has_link setup m i ≡ true → (c == w.connection m i) ≡ false) → may_tell setup w (arrivals.Bytes c piece) ≡ true
      of-none none = rw (no-link setup w c none, next (w.given_up c) refl) refl

  -- a connection is opened, and may be the other end of a link that is up
  by-open : (address : List ℕ) → server_tests.refusal (server.content setup.server h) (arrivals.Open address) ≡ None → Extends setup joined (AtServer (arrivals.Open address) ∷ run) schedule
  by-open address ok = elim (find-link setup (λ m i. monitor.is_link c (joined m i (calls i (history m run))) && linked i (trace (config m) (history m run)))) [
    | inr none ↦
        by-one setup joined (AtServer (arrivals.Open address) ∷ run) schedule (Other (arrivals.Open address))
        (subst (λ d. Follows setup joined (AtServer (arrivals.Open address) ∷ run) (after setup w d)) (sym told)
        (follows-told setup joined run w (arrivals.Open address) w.connection (accepted.server, ok) f (λ m i. inl refl)
        (λ m i d is up late le.
        let new : d ≡ c = omega arith in
        let yes : (monitor.is_link c (joined m i (calls i (history m run))) && linked i (trace (config m) (history m run))) ≡ true = rw (is, eq-eqb d c new, up) refl in
        let no : true ≡ false = sym yes ∙ none m i (up-there m i up) in
        cc)))
    | inl found ↦
        let m = found.0 in
        let i = found.1 in
        let parts = and_parts (monitor.is_link c (joined m i (calls i (history m run)))) (linked i (trace (config m) (history m run))) found.3 in
        met m i found.2 (is-some c (joined m i (calls i (history m run))) parts.0) parts.1
  ]
    where
      c : ℕ
      c = suc (opened (past setup.server h))

      v : World
      v = record w { server = arrivals.Open address ∷ w.server }

      told : deed setup w (Other (arrivals.Open address)) ≡ Tell (arrivals.Open address)
      told = played-other setup w (arrivals.Open address) refl refl (at-server (arrivals.Open address) ok)

      is-some : (n : ℕ) (o : Option ℕ) → monitor.is_link n o ≡ true → o ≡ Some n
      is-some n None is = cc
      is-some n (Some d) is = ap (λ x. Some x) (eqb-true d n is)

      met : (m i : ℕ) → has_link setup m i ≡ true → joined m i (calls i (history m run)) ≡ Some c → linked i (trace (config m) (history m run)) ≡ true →
          Extends setup joined (AtServer (arrivals.Open address) ∷ run) schedule
      met m i there is up =
          by-two setup joined (AtServer (arrivals.Open address) ∷ run) schedule (Accept m i c) (Other (arrivals.Open address))
          (subst (λ x. Follows setup joined (AtServer (arrivals.Open address) ∷ run) (after setup x (deed setup x (Accept m i c)))) (sym (ap (after setup w) told))
          (subst (λ d. Follows setup joined (AtServer (arrivals.Open address) ∷ run) (after setup v d)) (sym meets)
          (follows-told setup joined run w (arrivals.Open address) (with_end w.connection m i c) (accepted.server, ok) f either fresh)))
          (subst (λ x. Has setup (AtServer (arrivals.Open address) ∷ run) x) (sym (ap (after setup w) told))
          (record { server = ap (λ x. arrivals.Open address ∷ x) f.server; monitors = f.monitors }))
        where
          none : w.connection m i ≡ 0
          none = elim (f.other_end m i) [
            | inl nil ↦ nil
            | inr joins ↦
                let same : Some (w.connection m i) ≡ Some c = sym joins ∙ is in
                let equal : w.connection m i ≡ c = cc in
                let le = f.bound m i in
                absurd (omega arith)
          ]

          silent : arrivals.input c (arrivals.Open address ∷ w.server) ≡ []
          silent = ap (arrivals.input c) f.server ∙ unopened-input setup.server h c accepted.server (omega arith)

          there-now : server_tests.session_of c (served setup v).sessions ≡ None → ⊥
          there-now gone =
              let s : server.Content = server.content setup.server (arrivals.Open address ∷ h) in
              let number : s.opened ≡ c = omega arith in
              let no : server_tests.session_of s.opened s.sessions ≡ None =
              ap (λ x. server_tests.session_of x s.sessions) number
              ∙ sym (ap (λ x. server_tests.session_of c (server.content setup.server (arrivals.Open address ∷ x)).sessions) f.server) ∙ gone in
              none-some (server_tests.session_of s.opened s.sessions) (server.fresh s.opened address) no (opened-fresh setup.server h address (accepted.server, ok))

          kept : (o : Option (List ℕ)) → w.given_up c ≡ o → w.given_up c ≡ None
          kept None e = e
          kept (Some bytes) e = elim (f.given c bytes e) [
            | inl nil ↦ absurd (omega arith)
            | inr old ↦
                let one = fine m i (calls i (history m run)) old.0 old.1 old.2 c is old.3 in
                let lt : old.2 < calls old.1 (history old.0 run) = old.4 in
                let k : calls i (history m run) ≡ old.2 = one.2 in
                let here : calls old.1 (history old.0 run) ≡ calls i (history m run) =
                ap (λ x. calls x (history old.0 run)) (sym one.1) ∙ ap (λ x. calls i (history x run)) (sym one.0) in
                absurd (omega arith)
          ]

          meets : deed setup v (Accept m i c) ≡ Meet m i c
          meets = played-accept setup v m i c there none
              (unknown setup v c there-now silent (λ n j has. ne_eqb c (w.connection n j) (λ e. let le = f.bound n j in omega arith)) (kept (w.given_up c) refl))

          either : (n j : ℕ) → (with_end w.connection m i c n j ≡ w.connection n j) ⊎
              ((with_end w.connection m i c n j ≡ opened (past setup.server (arrivals.Open address ∷ h))) × (joined n j (calls j (history n run)) ≡ Some (with_end w.connection m i c n j)))
          either n j = elim (ends w.connection m i c n j) [
            | inr old ↦ inl old.1
            | inl new ↦ inr (
              (let e = new.2 in omega arith),
              ap (λ x. joined x j (calls j (history x run))) new.0 ∙ ap (λ y. joined m y (calls y (history m run))) new.1 ∙ is ∙ ap (λ x. Some x) (sym new.2),
            )
          ]

          fresh : (n j d : ℕ) → joined n j (calls j (history n run)) ≡ Some d → linked j (trace (monitor_of setup n) (history n run)) ≡ true →
              opened (past setup.server h) < d → d ≤ opened (past setup.server (arrivals.Open address ∷ h)) → with_end w.connection m i c n j ≡ d
          fresh n j d js js_up late le =
              let new : d ≡ c = omega arith in
              let same = fine m i (calls i (history m run)) n j (calls j (history n run)) c is (js ∙ ap (λ x. Some x) new) in
              elim (ends w.connection m i c n j) [
                | inl here ↦ here.2 ∙ sym new
                | inr there ↦ absurd (there.0 (sym same.0, sym same.1))
              ]

  -- any event of the server
  pub at-the-server : (event : arrivals.Event) → May setup joined run (AtServer event) → server_tests.refusal (server.content setup.server h) event ≡ None →
      Extends setup joined (AtServer event ∷ run) schedule
  at-the-server (arrivals.Bytes c piece) may ok = by-bytes c piece may ok
  at-the-server (arrivals.Open address) may ok = by-open address ok
  at-the-server (arrivals.Reload new) may ok =
      by-other (arrivals.Reload new) refl (ap (λ x. arrivals.Reload x) may.0)
      (subst (λ x. keeps_all new.upses (server.numbering_of (server.content setup.server x)) ≡ true) (sym f.server) may.1) ok
  at-the-server event may ok = by-other event refl refl refl ok

  -- ---- monitors

  told-same : (m : ℕ) → notices_waiting (trace (config m) (history m run)) ≡ [] → w.monitor m ≡ history m run
  told-same m none = f.monitors m ∙ ap (λ ns. all_taken ns (history m run)) none

  at-monitor : (m : ℕ) (event : Event) → notices_waiting (trace (config m) (history m run)) ≡ [] →
      monitor_tests.refusal (content (config m) (history m run)) event ≡ None → monitor_tests.refusal (known setup w m) event ≡ None
  at-monitor m event none ok = ap (λ x. monitor_tests.refusal (content (config m) x) event) (told-same m none) ∙ ok

  informed-monitors : (m : ℕ) (event : Event) (n : ℕ) → notices_waiting (trace (config m) (history m run)) ≡ [] →
      for_monitor m (informed (config m) (w.monitor m) event) w.monitor n ≡ quiet_history setup n (AtMonitor m event ∷ run)
  informed-monitors m event n none = elim (cases_eq n m) [
    | inr ne ↦
        for-other m n (informed (config m) (w.monitor m) event) w.monitor ne ∙ f.monitors n
        ∙ ap (λ x. all_taken (notices_waiting (trace (config n) x)) x) (sym (history-other n m event run (λ e. ne (sym e))))
    | inl same ↦
        let own : for_monitor m (informed (config m) (w.monitor m) event) w.monitor m ≡ quiet_history setup m (AtMonitor m event ∷ run) =
        for-own m (informed (config m) (w.monitor m) event) w.monitor
        ∙ ap (λ x. informed (config m) x event) (told-same m none)
        ∙ ap (λ x. all_taken (notices_waiting (trace (config m) x)) x) (sym (history-own m event run)) in
        subst (λ x. for_monitor m (informed (config m) (w.monitor m) event) w.monitor x ≡ quiet_history setup x (AtMonitor m event ∷ run)) (sym same) own
  ]

  -- what an event of monitor m leaves of a link that it doesn't make
  calls-kept : (m : ℕ) (event : Event) (n i : ℕ) → (n ≡ m → makes i event ≡ false) → calls i (history n (AtMonitor m event ∷ run)) ≡ calls i (history n run)
  calls-kept m event n i none = elim (cases_eq n m) [
    | inr ne ↦ ap (calls i) (history-other n m event run (λ e. ne (sym e)))
    | inl same ↦
        ap (λ x. calls i (history x (AtMonitor m event ∷ run))) same ∙ ap (calls i) (history-own m event run) ∙ calls-same i event (history m run) (none same)
        ∙ ap (λ x. calls i (history x run)) (sym same)
  ]

  linked-kept : (m : ℕ) (event : Event) (n i : ℕ) → (n ≡ m → makes i event ≡ false) → linked i (trace (config n) (history n (AtMonitor m event ∷ run))) ≡ true →
      linked i (trace (config n) (history n run)) ≡ true
  linked-kept m event n i none up = elim (cases_eq n m) [
    | inr ne ↦ sym (ap (λ x. linked i (trace (config n) x)) (history-other n m event run (λ e. ne (sym e)))) ∙ up
    | inl same ↦
        let own : linked i (trace (config m) (event ∷ history m run)) ≡ true =
        sym (ap (λ x. linked i (trace (config m) x)) (history-own m event run)) ∙ ap (λ x. linked i (trace (config x) (history x (AtMonitor m event ∷ run)))) (sym same) ∙ up in
        subst (λ x. linked i (trace (config x) (history x run)) ≡ true) (sym same) (linked-before setup m i (history m run) event (none same) own)
  ]

  -- what was sent on a link before it was made again
  old-kept : (m : ℕ) (event : Event) (c : ℕ) (bytes : List ℕ) → IsOld setup joined run c bytes → IsOld setup joined (AtMonitor m event ∷ run) c bytes
  old-kept m event c bytes (inl nil) = inl nil
  old-kept m event c bytes (inr old) =
      let n = old.0 in
      let i = old.1 in
      let k = old.2 in
      elim (cases_eq m n) [
        | inr ne ↦
            let h' = history-other n m event run ne in
            inr (n, i, k, old.3, subst (λ x. k < calls i x) (sym h') old.4, old.5 ∙ ap (sent_on (config n) i k) (sym h'), old.6)
        | inl same ↦
            let h' : history n (AtMonitor m event ∷ run) ≡ event ∷ history n run = rw (eq-eqb m n same) refl in
            let lt : k < calls i (history n run) = old.4 in
            let more = calls-grow i event (history n run) in
            inr (
              n,
              i,
              k,
              old.3,
              subst (λ x. k < calls i x) (sym h') (omega arith),
              old.5 ∙ sym (sent_on-past setup n i k event (history n run) lt) ∙ ap (sent_on (config n) i k) (sym h'),
              old.6,
            )
      ]

  follows-quietly : (m : ℕ) (event : Event) (monitors : ℕ → List Event) → ((i : ℕ) → makes i event ≡ false) →
      ((n : ℕ) → monitors n ≡ quiet_history setup n (AtMonitor m event ∷ run)) →
      Follows setup joined (AtMonitor m event ∷ run) (record { server = w.server; monitor = monitors; connection = w.connection; given_up = w.given_up })
  follows-quietly m event monitors none are = record {
    server = f.server;
    monitors = are;
    other_end = λ n i. elim (f.other_end n i) [
      | inl nil ↦ inl nil
      | inr is ↦ inr (ap (joined n i) (calls-kept m event n i (λ e. none i)) ∙ is)
    ];
    bound = f.bound;
    met = λ n i c is up le. f.met n i c (sym (ap (joined n i) (calls-kept m event n i (λ e. none i))) ∙ is) (linked-kept m event n i (λ e. none i) up) le;
    given = λ c bytes e. old-kept m event c bytes (f.given c bytes e);
  }

  by-own : (m : ℕ) (event : Event) (step : Step) → ((i : ℕ) → makes i event ≡ false) → notices_waiting (trace (config m) (history m run)) ≡ [] →
      deed setup w step ≡ Inform m event → Extends setup joined (AtMonitor m event ∷ run) schedule
  by-own m event step none quiet is =
      by-one setup joined (AtMonitor m event ∷ run) schedule step
      (subst (λ d. Follows setup joined (AtMonitor m event ∷ run) (after setup w d)) (sym is)
      (follows-quietly m event (for_monitor m (informed (config m) (w.monitor m) event) w.monitor) none (λ n. informed-monitors m event n quiet)))

  -- a notice is handed over: the world did that before
  by-notice : (m : ℕ) → monitor_tests.Accepts (content (config m) (history m run)) NoticeTaken → Extends setup joined (AtMonitor m NoticeTaken ∷ run) schedule
  by-notice m accepts =
      by-none setup joined (AtMonitor m NoticeTaken ∷ run) schedule
      (follows-quietly m NoticeTaken w.monitor (λ i. refl) (λ n. elim (cases_eq n m) [
        | inr ne ↦ f.monitors n ∙ ap (λ x. all_taken (notices_waiting (trace (config n) x)) x) (sym (history-other n m NoticeTaken run (λ e. ne (sym e))))
        | inl same ↦ subst (λ x. w.monitor x ≡ quiet_history setup x (AtMonitor m NoticeTaken ∷ run)) (sym same) own
      ]))
    where
      first : (ns : List Notice) → nat_lt 0 (length ns) ≡ true → all_taken ns (history m run) ≡ all_taken (drop 1 ns) (NoticeTaken ∷ history m run)
      first [] busy = cc
      first (notice ∷ ns) busy = refl

      left : notices_waiting (trace (config m) (NoticeTaken ∷ history m run)) ≡ drop 1 (notices_waiting (trace (config m) (history m run)))
      left = ap (λ x. x.notices) (keeps-content (config m) (history m run) NoticeTaken (accepted.monitors m, accepts))

      own : w.monitor m ≡ quiet_history setup m (AtMonitor m NoticeTaken ∷ run)
      own =
          f.monitors m ∙ first (notices_waiting (trace (config m) (history m run))) accepts.1
          ∙ ap (λ ns. all_taken ns (NoticeTaken ∷ history m run)) (sym left)
          ∙ ap (λ x. all_taken (notices_waiting (trace (config m) x)) x) (sym (history-own m NoticeTaken run))

  -- a piece comes on a link
  by-piece : (m i : ℕ) (piece : List ℕ) → May setup joined run (AtMonitor m (LinkBytes i piece)) → notices_waiting (trace (config m) (history m run)) ≡ [] →
      monitor_tests.refusal (content (config m) (history m run)) (LinkBytes i piece) ≡ None → Extends setup joined (AtMonitor m (LinkBytes i piece) ∷ run) schedule
  by-piece m i piece may quiet ok =
      by-own m (LinkBytes i piece) (Land m i (length piece)) (λ j. refl) quiet
      (played-land setup w m i piece there up may.2.0 next (at-monitor m (LinkBytes i piece) quiet ok))
    where
      there : has_link setup m i ≡ true
      there = link-there m i (line-of (config m) (history m run) i (monitor_tests.bytes_refusal (content (config m) (history m run)) piece) (λ no. cc) ok)

      sizes : (monitor_tests.is_linked (monitor_tests.watch_at i (content (config m) (history m run)).watches) ≡ true) × (length piece ≤ PIECE_MAX)
      sizes = monitor-bytes (content (config m) (history m run)) piece (monitor_tests.watch_at i (content (config m) (history m run)).watches) ok

      was-up : linked i (trace (config m) (history m run)) ≡ true
      was-up = sym (linked-made (config m) (history m run) i (line-within setup m i there)) ∙ sizes.0

      up : is_linked setup w m i ≡ true
      up = ap (λ x. linked i (trace (config m) x)) (told-same m quiet) ∙ was-up

      some : server.sent setup.server may.0 h ≡ [] → ⊥
      some none = may.2.0 (nothing-left (monitor.input i (trace (config m) (history m run))) piece (subst (λ x. Begins (monitor.input i (trace (config m) (history m run)) ++ piece) x) none may.2.1))

      joins : w.connection m i ≡ may.0
      joins = elim (cases_Bool (nat_lt (opened (past setup.server h)) may.0)) [
        | inl later ↦
            absurd (some (silent-sent setup.server h may.0
            (unopened-input setup.server h may.0 accepted.server (ltb-true (opened (past setup.server h)) may.0 later))))
        | inr before ↦ elim (f.met m i may.0 may.1 was-up (ltb-false (opened (past setup.server h)) may.0 before)) [
          | inl is ↦ is
          | inr gone ↦ absurd (some (silent-sent setup.server h may.0 gone.silent))
        ]
      ]

      next : take (min (length piece) PIECE_MAX) (drop (length (monitor.input i (seen setup w m))) (server.sent setup.server (w.connection m i) w.server)) ≡ piece
      next =
          ap (λ x. take (min (length piece) PIECE_MAX) (drop (length (monitor.input i (trace (config m) x))) (server.sent setup.server (w.connection m i) w.server))) (told-same m quiet)
          ∙ ap (λ x. take (min (length piece) PIECE_MAX) (drop (length (monitor.input i (trace (config m) (history m run)))) (server.sent setup.server x w.server))) joins
          ∙ ap (λ x. take (min (length piece) PIECE_MAX) (drop (length (monitor.input i (trace (config m) (history m run)))) (server.sent setup.server may.0 x))) f.server
          ∙ next-piece (monitor.input i (trace (config m) (history m run))) piece (server.sent setup.server may.0 h) may.2.1 sizes.1

  -- ---- a link is made

  module _ (m i : ℕ) (there : has_link setup m i ≡ true) (quiet : notices_waiting (trace (config m) (history m run)) ≡ [])
      (ok : monitor_tests.refusal (content (config m) (history m run)) (Linked i) ≡ None) where
    -- which time it is
    abbrev k : ℕ
    k = suc (calls i (history m run))

    anew : calls i (history m (AtMonitor m (Linked i) ∷ run)) ≡ k
    anew = ap (calls i) (history-own m (Linked i) run) ∙ calls-made i (Linked i) (history m run) (eq-eqb i i refl)

    -- the world after the call
    abbrev v : World
    v = after setup w (Renew m i)

    not-both : (n j : ℕ) → ((n ≡ m) × (j ≡ i) → ⊥) → n ≡ m → makes j (Linked i) ≡ false
    not-both n j other same = ne_eqb i j (λ e. other (same, sym e))

    given-up : (c : ℕ) (bytes : List ℕ) → v.given_up c ≡ Some bytes → IsOld setup joined (AtMonitor m (Linked i) ∷ run) c bytes
    given-up c bytes e = elim (cases_eq c (w.connection m i)) [
      | inr ne ↦
          old-kept m (Linked i) c bytes
          (f.given c bytes (sym (for-other (w.connection m i) c (Some (monitor.sent (config m) i (seen setup w m))) w.given_up ne) ∙ e))
      | inl same ↦ elim (f.other_end m i) [
        | inl nil ↦ inl (same ∙ nil)
        | inr joins ↦
            let now : Some (monitor.sent (config m) i (seen setup w m)) ≡ Some bytes =
            sym (ap v.given_up same ∙ for-own (w.connection m i) (Some (monitor.sent (config m) i (seen setup w m))) w.given_up) ∙ e in
            let is : monitor.sent (config m) i (seen setup w m) ≡ bytes = cc in
            let sent : bytes ≡ sent_on (config m) i (calls i (history m run)) (history m (AtMonitor m (Linked i) ∷ run)) =
            sym is ∙ ap (λ x. monitor.sent (config m) i (trace (config m) x)) (told-same m quiet)
            ∙ sym (sent_on-now setup m i (calls i (history m run)) (history m run) refl)
            ∙ sym (sent_on-other setup m i (calls i (history m run)) (Linked i) (history m run)
            (λ x. let one = calls-made i (Linked i) (history m run) (eq-eqb i i refl) in omega arith))
            ∙ ap (sent_on (config m) i (calls i (history m run))) (sym (history-own m (Linked i) run)) in
            inr (m, i, calls i (history m run), joins ∙ ap (λ x. Some x) (sym same), (let one = anew in omega arith), sent, there)
      ]
    ]

    -- the link has this end, as far as the server knows it
    follows-made : (connection : ℕ → ℕ → ℕ) (x : ℕ) → connection m i ≡ x →
        ((n j : ℕ) → ((n ≡ m) × (j ≡ i) → ⊥) → connection n j ≡ w.connection n j) →
        (x ≡ 0) ⊎ (joined m i k ≡ Some x) → x ≤ opened (past setup.server h) →
        ((c : ℕ) → joined m i k ≡ Some c → c ≤ opened (past setup.server h) → (x ≡ c) ⊎ IsGone setup h c) →
        Follows setup joined (AtMonitor m (Linked i) ∷ run) (record { server = v.server; monitor = v.monitor; connection = connection; given_up = v.given_up })
    follows-made connection x here others end few meets = record {
      server = f.server;
      monitors = λ n. informed-monitors m (Linked i) n quiet;
      other_end = λ n j. elim (is-this n j) [
        | inl this ↦
            let mine : (connection m i ≡ 0) ⊎ (joined m i (calls i (history m (AtMonitor m (Linked i) ∷ run))) ≡ Some (connection m i)) =
            elim end [
              | inl nil ↦ inl (here ∙ nil)
              | inr is ↦ inr (ap (joined m i) anew ∙ is ∙ ap (λ c. Some c) (sym here))
            ] in
            subst (λ a. (connection a j ≡ 0) ⊎ (joined a j (calls j (history a (AtMonitor m (Linked i) ∷ run))) ≡ Some (connection a j))) (sym this.0)
            (subst (λ b. (connection m b ≡ 0) ⊎ (joined m b (calls b (history m (AtMonitor m (Linked i) ∷ run))) ≡ Some (connection m b))) (sym this.1) mine)
        | inr other ↦ elim (f.other_end n j) [
          | inl nil ↦ inl (others n j other ∙ nil)
          | inr is ↦ inr (ap (joined n j) (calls-kept m (Linked i) n j (not-both n j other)) ∙ is ∙ ap (λ c. Some c) (sym (others n j other)))
        ]
      ];
      bound = λ n j. elim (is-this n j) [
        | inl this ↦ subst (λ a. connection a j ≤ opened (past setup.server h)) (sym this.0) (subst (λ b. connection m b ≤ opened (past setup.server h)) (sym this.1) (let e = here in omega arith))
        | inr other ↦ let e = others n j other in let le = f.bound n j in omega arith
      ];
      met = λ n j c is up le. elim (is-this n j) [
        | inl this ↦
            let is' : joined m i k ≡ Some c =
            ap (joined m i) (sym anew) ∙ ap (λ b. joined m b (calls b (history m (AtMonitor m (Linked i) ∷ run)))) (sym this.1)
            ∙ ap (λ a. joined a j (calls j (history a (AtMonitor m (Linked i) ∷ run)))) (sym this.0) ∙ is in
            let same : connection n j ≡ x = ap (λ a. connection a j) this.0 ∙ ap (connection m) this.1 ∙ here in
            elim (meets c is' le) [
              | inl x_is ↦ inl (same ∙ x_is)
              | inr gone ↦ inr gone
            ]
        | inr other ↦ elim (f.met n j c (sym (ap (joined n j) (calls-kept m (Linked i) n j (not-both n j other))) ∙ is) (linked-kept m (Linked i) n j (not-both n j other) up) le) [
          | inl x_is ↦ inl (others n j other ∙ x_is)
          | inr gone ↦ inr gone
        ]
      ];
      given = given-up;
    }
      where
        is-this : (n j : ℕ) → ((n ≡ m) × (j ≡ i)) ⊎ ((n ≡ m) × (j ≡ i) → ⊥)
        is-this n j = elim (cases_eq n m) [
          | inr ne ↦ inr (λ both. ne both.0)
          | inl same ↦ elim (cases_eq j i) [
            | inr ne ↦ inr (λ both. ne both.1)
            | inl equal ↦ inl (same, equal)
          ]
        ]

    called : deed setup w (Call m i) ≡ Renew m i
    called = played-call setup w m i there (at-monitor m (Linked i) quiet ok)

    renewed : (n j : ℕ) → ((n ≡ m) × (j ≡ i) → ⊥) → v.connection n j ≡ w.connection n j
    renewed n j other = elim (ends w.connection m i 0 n j) [
      | inl this ↦ absurd (other (this.0, this.1))
      | inr old ↦ old.1
    ]

    none-here : v.connection m i ≡ 0
    none-here = ap (λ g. let g' : ℕ → ℕ = g in g' i) (for-own m (for_monitor i 0 (w.connection m)) w.connection) ∙ for-own i 0 (w.connection m)

    -- the server hasn't its end
    alone : ((c : ℕ) → joined m i k ≡ Some c → c ≤ opened (past setup.server h) → (0 ≡ c) ⊎ IsGone setup h c) → Extends setup joined (AtMonitor m (Linked i) ∷ run) schedule
    alone meets =
        by-one setup joined (AtMonitor m (Linked i) ∷ run) schedule (Call m i)
        (subst (λ d. Follows setup joined (AtMonitor m (Linked i) ∷ run) (after setup w d)) (sym called)
        (follows-made v.connection 0 none-here renewed (inl refl) (omega arith) meets))

    -- the server has its end already
    with-end : (c : ℕ) → joined m i k ≡ Some c → c ≤ opened (past setup.server h) → (c ≡ 0 → ⊥) →
        (server_tests.session_of c (server.content setup.server h).sessions ≡ None → ⊥) → Extends setup joined (AtMonitor m (Linked i) ∷ run) schedule
    with-end c is few some open_there =
        by-two setup joined (AtMonitor m (Linked i) ∷ run) schedule (Accept m i c) (Call m i)
        (subst (λ u. Follows setup joined (AtMonitor m (Linked i) ∷ run) (after setup u (deed setup u (Accept m i c)))) (sym (ap (after setup w) called))
        (subst (λ d. Follows setup joined (AtMonitor m (Linked i) ∷ run) (after setup v d)) (sym meets)
        (follows-made (with_end v.connection m i c) c mine others (inr is) few (λ d joins le. let e : Some c ≡ Some d = sym is ∙ joins in inl (some-equal c d e)))))
        (subst (λ x. Has setup (AtMonitor m (Linked i) ∷ run) x) (sym (ap (after setup w) called))
        (record { server = f.server; monitors = λ n. informed-monitors m (Linked i) n quiet }))
      where
        some-equal : (a b : ℕ) → Some a ≡ Some b → a ≡ b
        some-equal a b e = cc

        mine : with_end v.connection m i c m i ≡ c
        mine = ap (λ g. let g' : ℕ → ℕ = g in g' i) (for-own m (for_monitor i c (v.connection m)) v.connection) ∙ for-own i c (v.connection m)

        others : (n j : ℕ) → ((n ≡ m) × (j ≡ i) → ⊥) → with_end v.connection m i c n j ≡ w.connection n j
        others n j other = elim (ends v.connection m i c n j) [
          | inl this ↦ absurd (other (this.0, this.1))
          | inr old ↦ old.1 ∙ renewed n j other
        ]

        silent : arrivals.input c v.server ≡ []
        silent =
            ap (arrivals.input c) f.server
            ∙ begun-by-nothing (arrivals.input c h)
            (subst (λ x. Begins (arrivals.input c h) x) (sent_on-later setup m i k (history m run) (omega arith)) (came-of m i k c there is))

        of-other : (n j : ℕ) → has_link setup n j ≡ true → (c == v.connection n j) ≡ false
        of-other n j has = elim (ends w.connection m i 0 n j) [
          | inl this ↦ ne_eqb c (v.connection n j) (λ e. some (e ∙ this.2))
          | inr old ↦ ne_eqb c (v.connection n j) (λ e. elim (f.other_end n j) [
            | inl nil ↦ some (e ∙ old.1 ∙ nil)
            | inr joins ↦
                let same = fine m i k n j (calls j (history n run)) c is (joins ∙ ap (λ x. Some x) (sym (e ∙ old.1))) in
                old.0 (sym same.0, sym same.1)
          ])
        ]

        kept : (o : Option (List ℕ)) → v.given_up c ≡ o → v.given_up c ≡ None
        kept None e = e
        kept (Some bytes) e = elim (given-up c bytes e) [
          | inl nil ↦ absurd (some nil)
          | inr old ↦
              let same = fine m i k old.0 old.1 old.2 c is old.3 in
              let lt : old.2 < calls old.1 (history old.0 (AtMonitor m (Linked i) ∷ run)) = old.4 in
              let number : k ≡ old.2 = same.2 in
              let count : calls old.1 (history old.0 (AtMonitor m (Linked i) ∷ run)) ≡ k =
              ap (λ x. calls x (history old.0 (AtMonitor m (Linked i) ∷ run))) (sym same.1)
              ∙ ap (λ x. calls i (history x (AtMonitor m (Linked i) ∷ run))) (sym same.0) ∙ anew in
              absurd (omega arith)
        ]

        up : server_tests.session_of c (served setup v).sessions ≡ None → ⊥
        up none = open_there (sym (ap (λ x. server_tests.session_of c (server.content setup.server x).sessions) f.server) ∙ none)

        meets : deed setup v (Accept m i c) ≡ Meet m i c
        meets = played-accept setup v m i c there none-here (unknown setup v c up silent of-other (kept (v.given_up c) refl))

    pub by-call : Extends setup joined (AtMonitor m (Linked i) ∷ run) schedule
    by-call = by (joined m i k) refl
      where
        some-equal : (a b : ℕ) → Some a ≡ Some b → a ≡ b
        some-equal a b e = cc

        by : (o : Option ℕ) → joined m i k ≡ o → Extends setup joined (AtMonitor m (Linked i) ∷ run) schedule
        by None is = alone (λ c joins le. let no : None ≡ Some c = sym is ∙ joins in cc)
        by (Some c) is = elim (cases_Bool (nat_lt (opened (past setup.server h)) c)) [
          | inl later ↦ alone (λ d joins le.
              let e : Some c ≡ Some d = sym is ∙ joins in
              let same : c ≡ d = some-equal c d e in
              let lt = ltb-true (opened (past setup.server h)) c later in
              absurd (omega arith))
          | inr before ↦
              let few = ltb-false (opened (past setup.server h)) c before in
              elim (cases_eq c 0) [
                | inl nil ↦ alone (λ d joins le. let e : Some c ≡ Some d = sym is ∙ joins in inl (sym nil ∙ some-equal c d e))
                | inr some ↦ open_or_gone c is few some (server_tests.session_of c (server.content setup.server h).sessions) refl
              ]
        ]
          where
            open_or_gone : (c : ℕ) → joined m i k ≡ Some c → c ≤ opened (past setup.server h) → (c ≡ 0 → ⊥) → (o : Option server.Session) →
                server_tests.session_of c (server.content setup.server h).sessions ≡ o → Extends setup joined (AtMonitor m (Linked i) ∷ run) schedule
            open_or_gone c is few some (Some session) there_is = with-end c is few some (λ none. let no : None ≡ Some session = sym none ∙ there_is in cc)
            open_or_gone c is few some None closed = alone (λ d joins le.
                let e : Some c ≡ Some d = sym is ∙ joins in
                let gone : IsGone setup h c = record {
                  opened = few;
                  silent = begun-by-nothing (arrivals.input c h)
                      (subst (λ x. Begins (arrivals.input c h) x) (sent_on-later setup m i k (history m run) (omega arith)) (came-of m i k c there is));
                  closed = closed;
                } in
                inr (subst (λ x. IsGone setup h x) (some-equal c d e) gone))

  -- any event of a monitor
  pub at-a-monitor : (m : ℕ) (event : Event) → May setup joined run (AtMonitor m event) → IsOrdered setup run (AtMonitor m event) →
      monitor_tests.Accepts (content (config m) (history m run)) event → Extends setup joined (AtMonitor m event ∷ run) schedule
  at-a-monitor m (Moment t) may order ok =
      by-own m (Moment t) (MonitorClock m t) (λ i. refl) order.1
      (played-moment setup w m t (lt-ltb m (length setup.monitors) order.0) (at-monitor m (Moment t) order.1 ok.0))
  at-a-monitor m (Linked i) may order ok =
      by-call m i (link-there m i (line-of (config m) (history m run) i monitor_tests.linked_refusal (λ no. cc) ok.0)) order.1 ok.0
  at-a-monitor m (LinkBytes i piece) may order ok = by-piece m i piece may order.1 ok.0
  at-a-monitor m (LinkLost i) may order ok =
      by-own m (LinkLost i) (CutMonitor m i) (λ j. refl) order.1
      (played-lost setup w m i (link-there m i (line-of (config m) (history m run) i monitor_tests.lost_refusal (λ no. cc) ok.0)) (at-monitor m (LinkLost i) order.1 ok.0))
  at-a-monitor m (LinkTook i n) may order ok =
      by-own m (LinkTook i n) (Write m i n) (λ j. refl) order.1
      (played-write setup w m i n (link-there m i (line-of (config m) (history m run) i (monitor_tests.took_refusal n) (λ no. cc) ok.0)) (at-monitor m (LinkTook i n) order.1 ok.0))
  at-a-monitor m (OutOfMemory i piece k) may order ok = absurd may
  at-a-monitor m NoticeTaken may order ok = by-notice m ok

-- ---- all that happened

abbrev pub AreOrdered : Setup → List Happening → Type 0
AreOrdered setup [] = Unit {0}
AreOrdered setup (happening ∷ run) = AreOrdered setup run × IsOrdered setup run happening

-- a schedule that follows the run, and each of its fronts one of the run's
pub record Plays (setup : Setup) (joined : Network) (run : List Happening) : Type 0 where
  pub schedule : List Step
  pub follows : Follows setup joined run (world setup schedule)
  pub fronts : (early : List Step) → IsFront early schedule → (so_far : List Happening) × IsFront so_far run × Has setup so_far (world setup early)

module _ (setup : Setup) (joined : Network) (fine : IsNetwork joined) where
  before-any : Follows setup joined [] (world setup [])
  before-any = record {
    server = refl;
    monitors = λ m. refl;
    other_end = λ m i. inl refl;
    bound = λ m i. omega arith;
    met = λ m i c is up le. cc;
    given = λ c bytes e. cc;
  }

  no-steps : (early : List Step) → IsFront early [] → (so_far : List Happening) × IsFront so_far (let none : List Happening = [] in none) × Has setup so_far (world setup early)
  no-steps early is = ([], refl, subst (λ s. Has setup [] (world setup s)) (sym is) (has-of setup joined [] (world setup []) before-any))

  longer : (happening : Happening) (run : List Happening) (so_far : Plays setup joined run) → Extends setup joined (happening ∷ run) so_far.schedule →
      Plays setup joined (happening ∷ run)
  longer happening run so_far x = record {
    schedule = x.schedule;
    follows = x.follows;
    fronts = λ early is. elim (x.fronts early is) [
      | inr now ↦ (happening ∷ run, inl refl, now)
      | inl older ↦ let found = so_far.fronts early older in (found.0, inr found.1, found.2)
    ];
  }

  pub plays : (run : List Happening) → IsCarried setup joined run → AreOrdered setup run → IsAccepted setup run → Plays setup joined run
  plays [] is order accepted = record { schedule = []; follows = before-any; fronts = no-steps }
  plays (AtServer event ∷ run) is order accepted =
      let earlier = accepted-before setup joined (AtServer event) run accepted in
      let carried = carried-before setup joined (AtServer event) run is in
      let so_far = plays run carried order.0 earlier in
      longer (AtServer event) run so_far
      (at-the-server setup joined fine run carried earlier so_far.schedule so_far.follows event (may-last setup joined (AtServer event) run is) accepted.server.1)
  plays (AtMonitor m event ∷ run) is order accepted =
      let earlier = accepted-before setup joined (AtMonitor m event) run accepted in
      let carried = carried-before setup joined (AtMonitor m event) run is in
      let so_far = plays run carried order.0 earlier in
      let all : monitor_tests.IsAccepted (monitor_of setup m) (event ∷ history m run) =
      subst (λ x. monitor_tests.IsAccepted (monitor_of setup m) x) (history-own m event run) (accepted.monitors m) in
      longer (AtMonitor m event) run so_far
      (at-a-monitor setup joined fine run carried earlier so_far.schedule so_far.follows m event (may-last setup joined (AtMonitor m event) run is) order.1 all.1)
