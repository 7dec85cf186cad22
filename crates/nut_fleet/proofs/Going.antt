-- How a fleet that a program keeps continues with a step.
use Rattle.std.proofs.Common.{◌≡◌, ◌⊎◌, ℕ, suc, ◌==◌, ◌&&◌, ◌++◌, ◌≤◌, ◌<◌, not, min, Bool, true, false, inl, inr, List, [], ◌∷◌, length, take, drop, None, is_some, is_none, refl, sym, ◌∙◌, ap, subst, arith, append-nil}
use Rattle.std.specs.Prelude.{if◌then◌else◌}
use Rattle.std.proofs.lemmas.Bool.{cases_Bool, cases_eq, and_parts, eqb-true, eq-eqb, ne_eqb, not-true, lt-ltb}
use Rattle.std.specs.Prelude.{nat_lt}
use Rattle.nut_words.specs.Quoting.{Begins}
use Rattle.nut_words.specs.declared.limits.TheConstants.{PIECE_MAX}
use Rattle.nut_server_spec.specs.Event as arrivals
use Rattle.nut_server_spec.specs.Content as server
use Rattle.nut_server_spec.specs.Acceptance as server_tests
use Rattle.nut_server_spec.specs.machine.Machine as server_machine
use Rattle.nut_server_spec.specs.Trace.{opened}
use Rattle.nut_server_spec.proofs.Kept as server_kept
use Rattle.nut_server_spec.proofs.Sent.{sent-step}
use Rattle.nut_server_spec.proofs.Others.{closed-stays}
use Rattle.nut_monitor_spec.specs.declared.Notice.{Notice}
use Rattle.nut_monitor_spec.specs.Configuration.{Configuration}
use Rattle.nut_monitor_spec.specs.Event as events
use Rattle.nut_monitor_spec.specs.Content as knowledge
use Rattle.nut_monitor_spec.specs.Acceptance as monitor_tests
use Rattle.nut_monitor_spec.specs.machine.Machine as monitor_machine
use Rattle.nut_monitor_spec.specs.Trace.{linked, trace, notices_waiting}
use Rattle.nut_monitor_spec.specs.Trace as monitor
use Rattle.nut_monitor_spec.proofs.Kept as monitor_kept
use Rattle.nut_monitor_spec.proofs.Lists.{get_at}
use Rattle.nut_fleet.specs.Schedule.{Step, ServerClock, MonitorClock, Up, Driver, Down, Link, Out, Reach, Back, Land, CutServer, CutMonitor}
use Rattle.nut_fleet.specs.World.{Setup, World, Deed, Skip, Tell, Inform, Join, monitor_of, seen, served, known, is_open, is_linked, to_server, to_monitor, server_waits, monitor_waits, tell, inform, carried, counted, moved, address_of, has_link, is_fit, deed_of, all_taken, informed, for_monitor, after, world}
use Rattle.nut_fleet.specs.Fleet.{IsSetup}
use Rattle.nut_fleet.specs.Log.{news, news_of}
use Rattle.nut_fleet.specs.Moves.{reached, sent_off, landed, put_in, makes, ContentsTell}
use Rattle.nut_fleet.specs.Seen.{Ends, Fleet, Stands, KeepsLink, Keeps}
use Rattle.nut_fleet.specs.machine.Going.{what_counts, told_on, hushed, informed_on, with_ends, put_on, ends_reached, ends_back, ends_out, ends_landed, ends_made, moved_by, moved_on, heard_news, news_by, news_seen, FleetsGoOn}
use Rattle.nut_fleet.proofs.Sound.{Sound, IsLawful}
use Rattle.nut_fleet.proofs.Others.{is_none-true, some-there}
use Rattle.nut_fleet.proofs.Steps.{for-own, for-other, line-within, zero-closed}
use Rattle.nut_fleet.proofs.Worlds.{sound}
use Rattle.nut_fleet.proofs.Moves.{input-grows, drop-more, drop-begins, landed-grows, sent-more, informed-same, linked-before, moves-made, no-link, contents-tell}
use Rattle.nut_fleet.proofs.Entries.{entry-input}
use Rattle.nut_fleet.proofs.Seen.{does-so, played-is, same-deed, same-linked, same-monitor_waits, same-open, same-server_waits}

-- ---- a monitor's content, after its notices were taken

taken-content : (config : Configuration) (notices : List Notice) (told : List events.Event) → monitor_tests.IsAccepted config told →
    notices_waiting (trace config told) ≡ notices → knowledge.content config (all_taken notices told) ≡ hushed (knowledge.content config told)
taken-content config [] told accepted waiting =
    ap (λ ns. let s : knowledge.Content = record (knowledge.content config told) { notices = ns } in s) waiting
taken-content config (notice ∷ notices) told accepted waiting =
    let busy : monitor_tests.is_busy (knowledge.content config told) ≡ true = ap (λ ns. nat_lt 0 (length ns)) waiting ∙ lt-ltb 0 (length (notice ∷ notices)) (omega arith) in
    let accepts : monitor_tests.Accepts (knowledge.content config told) events.NoticeTaken = (refl, busy) in
    let kept = monitor_kept.keeps-content config told events.NoticeTaken (accepted, accepts) in
    taken-content config notices (events.NoticeTaken ∷ told) (accepted, accepts) (ap (λ (s : knowledge.Content). s.notices) kept ∙ ap (drop 1) waiting)
    ∙ ap hushed kept

informed-content : (config : Configuration) (told : List events.Event) (event : events.Event) → monitor_tests.IsAccepted config (event ∷ told) →
    knowledge.content config (informed config told event) ≡ hushed (monitor_machine.advance (knowledge.content config told) event)
informed-content config told event accepted = grind (arith, taken-content, monitor_kept.keeps-content)

-- ---- a link at an event

module _ (setup : Setup) (m i c : ℕ) (h : List arrivals.Event) (told : List events.Event) (ends next : Ends) (k : KeepsLink setup m i c h told ends)
    (same : next.connection ≡ ends.connection) where
  abbrev config : Configuration
  config = monitor_of setup m

  told-link : (e : arrivals.Event) → server_tests.IsAccepted setup.server (e ∷ h) → c ≤ opened (server.past setup.server h) →
      Begins (monitor.input i (trace config told)) (server.sent setup.server c h) →
      next.to_server ≡ drop (length (reached c e)) ends.to_server →
      (linked i (trace config told) ≡ true → next.to_monitor ≡ ends.to_monitor ++ take (sent_off c e) (server.waits setup.server c h)) →
      KeepsLink setup m i c (e ∷ h) told next
  told-link e accepted bound begins front back =
      grind (arith, e, closed-stays, drop-more, input-grows, drop-begins, sent-step)

  informed-link : (event : events.Event) → monitor_tests.IsAccepted config (event ∷ told) → i < length config.lines → makes i event ≡ false →
      Begins (arrivals.input c h) (monitor.sent config i (trace config told)) →
      (is_some (server_tests.session_of c (server.content setup.server h).sessions) ≡ true →
      next.to_server ≡ ends.to_server ++ take (put_in i event) (monitor.waits config i (trace config told))) →
      next.to_monitor ≡ drop (length (landed i event)) ends.to_monitor →
      KeepsLink setup m i c h (informed config told event) next
  informed-link event accepted within is begins out back =
      let quiet = informed-same setup m i told event accepted within in record {
        connection = same ∙ k.connection;
        to_server = λ up.
            let came = arrivals.input c h in
            let more = take (put_in i event) (monitor.waits config i (trace config told)) in
            out up ∙ ap (λ x. x ++ more) (k.to_server up) ∙ sym (drop-begins came (monitor.sent config i (trace config told)) more begins)
            ∙ sym (ap (drop (length came)) (quiet.sent ∙ sent-more setup m i told event accepted.0 within accepted.1 is));
        to_monitor = λ up.
            let bytes = server.sent setup.server c h in
            let before : linked i (trace config told) ≡ true = linked-before setup m i told event is (sym quiet.linked ∙ up) in
            back ∙ ap (drop (length (landed i event))) (k.to_monitor before) ∙ sym (drop-more (monitor.input i (trace config told)) (landed i event) bytes)
            ∙ sym (ap (λ x. drop (length x) bytes) (quiet.input ∙ entry-input config (trace config told) event i ∙ landed-grows setup m i event (monitor.input i (trace config told)) is));
      }

-- ---- one link of all

abbrev AtLink : ℕ → ℕ → ℕ → ℕ → Type 0
AtLink m i k j = ((k ≡ m) × (j ≡ i)) ⊎ ((k ≡ m) × (j ≡ i) → ⊥)

at-link : (m i k j : ℕ) → AtLink m i k j
at-link m i k j = grind (arith, cases_eq)

one-own : {A : Type 0} (m i : ℕ) (x : A) (f : ℕ → ℕ → A) → for_monitor m (for_monitor i x (f m)) f m i ≡ x
one-own m i x f = rw (eq-eqb m m refl, eq-eqb i i refl) refl

one-other : {A : Type 0} (m i : ℕ) (x : A) (f : ℕ → ℕ → A) (k j : ℕ) → ((k ≡ m) × (j ≡ i) → ⊥) → for_monitor m (for_monitor i x (f m)) f k j ≡ f k j
one-other m i x f k j ne = grind (arith, cases_eq, eq-eqb, ne_eqb)

-- what holds of a link with a new value, and of all others
with-link : {A : Type 0} (m i : ℕ) (x : A) (f : ℕ → ℕ → A) (P : ℕ → ℕ → A → Type 0) → P m i x → ((k j : ℕ) → ((k ≡ m) × (j ≡ i) → ⊥) → P k j (f k j)) →
    (k j : ℕ) → P k j (for_monitor m (for_monitor i x (f m)) f k j)
with-link m i x f P own others k j = grind (arith, own, at-link, one-own, one-other)

-- ---- a fleet at a deed

-- an event of the server brings nothing to this connection and takes nothing of it
abbrev IsQuiet : ℕ → arrivals.Event → Type 0
IsQuiet c e = (reached c e ≡ []) × (sent_off c e ≡ 0)

-- an event of a monitor neither makes link i nor brings or takes bytes on it
abbrev IsQuietFor : ℕ → events.Event → Type 0
IsQuietFor i event = (makes i event ≡ false) × (put_in i event ≡ 0) × (landed i event ≡ [])

pub from-if : (b : Bool) (x : List ℕ) → (if b then x else []) ≡ [] → b ≡ true → [] ≡ x
from-if b x is up = grind arith

module _ (setup : Setup) (earlier : List Step) (s : Sound setup earlier (world setup earlier)) (tells : ContentsTell setup (world setup earlier)) (f : Fleet)
    (keeps : Keeps setup (world setup earlier) f) where
  abbrev w : World
  w = world setup earlier

  server-told : (e : arrivals.Event) → server_tests.refusal (served setup w) e ≡ None →
      server_machine.advance f.server e ≡ server.content setup.server (e ∷ w.server)
  server-told e ok = ap (λ x. server_machine.advance x e) keeps.server ∙ sym (server_kept.keeps-content setup.server w.server e (s.accepted, ok))

  link-quiet : (e : arrivals.Event) → server_tests.refusal (served setup w) e ≡ None → (m i : ℕ) → has_link setup m i ≡ true → IsQuiet (w.connection m i) e →
      KeepsLink setup m i (w.connection m i) (e ∷ w.server) (w.monitor m) (f.link m i)
  link-quiet e ok m i there quiet =
      let c = w.connection m i in
      let ends = f.link m i in
      told-link setup m i c w.server (w.monitor m) ends ends (keeps.link m i there) refl e (s.accepted, ok) (s.bound m i) (((s.monitors m).links i there).back)
      (sym (ap (λ x. drop (length x) ends.to_server) quiet.0))
      (λ up. sym (ap (λ n. ends.to_monitor ++ take n (server.waits setup.server c w.server)) quiet.1 ∙ append-nil ends.to_monitor))

  tell-quiet : (e : arrivals.Event) → server_tests.refusal (served setup w) e ≡ None → ((c : ℕ) → IsQuiet c e) → Keeps setup (after setup w (Tell e)) (told_on e f)
  tell-quiet e ok quiet = record {
    server = server-told e ok;
    monitor = keeps.monitor;
    link = λ m i there. link-quiet e ok m i there (quiet (w.connection m i));
  }

  tell-at : (e : arrivals.Event) → server_tests.refusal (served setup w) e ≡ None → (m i : ℕ) (next : Ends) →
      KeepsLink setup m i (w.connection m i) (e ∷ w.server) (w.monitor m) next →
      ((k j : ℕ) → has_link setup k j ≡ true → ((k ≡ m) × (j ≡ i) → ⊥) → IsQuiet (w.connection k j) e) →
      Keeps setup (after setup w (Tell e)) (with_ends m i next (told_on e f))
  tell-at e ok m i next own others = record {
    server = server-told e ok;
    monitor = keeps.monitor;
    link = with-link m i next f.link (λ k j ends. has_link setup k j ≡ true → KeepsLink setup k j (w.connection k j) (e ∷ w.server) (w.monitor k) ends) (λ there. own)
        (λ k j ne there. link-quiet e ok k j there (others k j there ne));
  }

  -- the connections of two links differ if one is open
  other-connection : (m i : ℕ) → has_link setup m i ≡ true → is_open setup w m i ≡ true → (k j : ℕ) → has_link setup k j ≡ true →
      ((k ≡ m) × (j ≡ i) → ⊥) → (w.connection m i == w.connection k j) ≡ false
  other-connection m i there up k j has ne = elim (cases_Bool (w.connection m i == w.connection k j)) [
    | inr other ↦ other
    | inl same ↦ absurd (elim (s.distinct m i k j there has (eqb-true (w.connection m i) (w.connection k j) same)) [
      | inl none ↦
          some-there (server_tests.session_of (w.connection m i) (served setup w).sessions) up
          (ap (λ c. server_tests.session_of c (served setup w).sessions) none ∙ zero-closed setup w.server)
      | inr equal ↦ ne (sym equal.0, sym equal.1)
    ])
  ]

  quiet-bytes : (c d : ℕ) (piece : List ℕ) → (c == d) ≡ false → IsQuiet d (arrivals.Bytes c piece)
  quiet-bytes c d piece differ = (rw differ refl, refl)

  quiet-took : (c d n : ℕ) → (c == d) ≡ false → IsQuiet d (arrivals.Took c n)
  quiet-took c d n differ = (refl, rw differ refl)

  reach-keeps : (m i : ℕ) (piece : List ℕ) → has_link setup m i ≡ true → is_open setup w m i ≡ true →
      server_tests.refusal (served setup w) (arrivals.Bytes (w.connection m i) piece) ≡ None →
      Keeps setup (after setup w (Tell (arrivals.Bytes (w.connection m i) piece)))
      (with_ends m i (ends_reached f m i (arrivals.Bytes (w.connection m i) piece)) (told_on (arrivals.Bytes (w.connection m i) piece) f))
  reach-keeps m i piece there up ok =
      let c = w.connection m i in
      let e = arrivals.Bytes c piece in
      let ends = f.link m i in
      tell-at e ok m i (ends_reached f m i e)
      (told-link setup m i c w.server (w.monitor m) ends (ends_reached f m i e) (keeps.link m i there) refl e (s.accepted, ok) (s.bound m i) (((s.monitors m).links i there).back)
      (ap (λ d. drop (length (reached d (arrivals.Bytes (w.connection m i) piece))) ends.to_server) (keeps.link m i there).connection)
      (λ linked. sym (append-nil ends.to_monitor)))
      (λ k j has ne. quiet-bytes c (w.connection k j) piece (other-connection m i there up k j has ne))

  back-keeps : (m i n : ℕ) → has_link setup m i ≡ true → is_open setup w m i ≡ true →
      server_tests.refusal (served setup w) (arrivals.Took (w.connection m i) n) ≡ None →
      Keeps setup (after setup w (Tell (arrivals.Took (w.connection m i) n)))
      (with_ends m i (ends_back f m i (arrivals.Took (w.connection m i) n)) (told_on (arrivals.Took (w.connection m i) n) f))
  back-keeps m i n there up ok =
      let c = w.connection m i in
      let e = arrivals.Took c n in
      let ends = f.link m i in
      tell-at e ok m i (ends_back f m i e)
      (told-link setup m i c w.server (w.monitor m) ends (ends_back f m i e) (keeps.link m i there) refl e (s.accepted, ok) (s.bound m i) (((s.monitors m).links i there).back)
      refl
      (λ linked.
      ap (λ b. put_on b (take (sent_off ends.connection (arrivals.Took (w.connection m i) n)) (server_tests.waiting_of ends.connection f.server.sessions)) ends.to_monitor) (same-linked setup w f keeps tells m i there ∙ linked)
      ∙ ap (λ bytes. ends.to_monitor ++ take (sent_off ends.connection (arrivals.Took (w.connection m i) n)) bytes) (same-server_waits setup w f keeps tells m i there up)
      ∙ ap (λ d. ends.to_monitor ++ take (sent_off d (arrivals.Took (w.connection m i) n)) (server_waits setup w m i)) (keeps.link m i there).connection))
      (λ k j has ne. quiet-took c (w.connection k j) n (other-connection m i there up k j has ne))

  -- ---- a monitor is told something

  monitor-told : (m : ℕ) (event : events.Event) → monitor_tests.Accepts (known setup w m) event → (k : ℕ) →
      for_monitor m (hushed (monitor_machine.advance (f.monitor m) event)) f.monitor k
      ≡ knowledge.content (monitor_of setup k) (for_monitor m (informed (monitor_of setup m) (w.monitor m) event) w.monitor k)
  monitor-told m event ok k = grind (arith, cases_eq, for-own, informed-content, for-other)

  -- a link that the monitor's event doesn't concern, if its connection is c and these are the server's events
  informed-quiet : (m : ℕ) (event : events.Event) → monitor_tests.Accepts (known setup w m) event → (i c : ℕ) (h : List arrivals.Event) → has_link setup m i ≡ true →
      IsQuietFor i event → Begins (arrivals.input c h) (monitor.sent (monitor_of setup m) i (seen setup w m)) →
      KeepsLink setup m i c h (w.monitor m) (f.link m i) → KeepsLink setup m i c h (informed (monitor_of setup m) (w.monitor m) event) (f.link m i)
  informed-quiet m event ok i c h there quiet begins kept =
      let ends = f.link m i in
      informed-link setup m i c h (w.monitor m) ends ends kept refl event ((s.monitors m).accepted, ok) (line-within setup m i there) quiet.0 begins
      (λ up. sym (ap (λ n. ends.to_server ++ take n (monitor.waits (monitor_of setup m) i (seen setup w m))) quiet.1 ∙ append-nil ends.to_server))
      (sym (ap (λ x. drop (length x) ends.to_monitor) quiet.2))

  -- any link, if the events of the server and its connection stay
  link-informed : (m : ℕ) (event : events.Event) → monitor_tests.Accepts (known setup w m) event → (k j : ℕ) → has_link setup k j ≡ true →
      (k ≡ m → IsQuietFor j event) →
      KeepsLink setup k j (w.connection k j) w.server (for_monitor m (informed (monitor_of setup m) (w.monitor m) event) w.monitor k) (f.link k j)
  link-informed m event ok k j there quiet =
      let told = informed (monitor_of setup m) (w.monitor m) event in
      elim (cases_eq k m) [
        | inl same ↦
            subst (λ x. KeepsLink setup x j (w.connection x j) w.server (for_monitor m (informed (monitor_of setup m) (w.monitor m) event) w.monitor x) (f.link x j)) (sym same)
            (subst (λ x. KeepsLink setup m j (w.connection m j) w.server x (f.link m j)) (sym (for-own m told w.monitor))
            (let has : has_link setup m j ≡ true = subst (λ x. has_link setup x j ≡ true) same there in
            informed-quiet m event ok j (w.connection m j) w.server has (quiet same) (((s.monitors m).links j has).out) (keeps.link m j has)))
        | inr ne ↦ subst (λ x. KeepsLink setup k j (w.connection k j) w.server x (f.link k j)) (sym (for-other m k told w.monitor ne)) (keeps.link k j there)
      ]

  inform-quiet : (m : ℕ) (event : events.Event) → monitor_tests.Accepts (known setup w m) event → ((i : ℕ) → IsQuietFor i event) →
      Keeps setup (after setup w (Inform m event)) (informed_on m event f)
  inform-quiet m event ok quiet = record {
    server = keeps.server;
    monitor = monitor-told m event ok;
    link = λ k j there. link-informed m event ok k j there (λ same. quiet j);
  }

  inform-at : (m i : ℕ) (event : events.Event) → monitor_tests.Accepts (known setup w m) event → (next : Ends) →
      KeepsLink setup m i (w.connection m i) w.server (informed (monitor_of setup m) (w.monitor m) event) next →
      ((j : ℕ) → (j ≡ i → ⊥) → IsQuietFor j event) →
      Keeps setup (after setup w (Inform m event)) (with_ends m i next (informed_on m event f))
  inform-at m i event ok next own others =
      let told = informed (monitor_of setup m) (w.monitor m) event in record {
        server = keeps.server;
        monitor = monitor-told m event ok;
        link = with-link m i next f.link (λ k j ends. has_link setup k j ≡ true → KeepsLink setup k j (w.connection k j) w.server (for_monitor m (informed (monitor_of setup m) (w.monitor m) event) w.monitor k) ends)
            (λ there. subst (λ x. KeepsLink setup m i (w.connection m i) w.server x next) (sym (for-own m told w.monitor)) own)
            (λ k j ne there. link-informed m event ok k j there (λ same. others j (λ equal. ne (same, equal))));
      }

  quiet-link_took : (i k j : ℕ) → (j ≡ i → ⊥) → IsQuietFor j (events.LinkTook i k)
  quiet-link_took i k j ne = (refl, rw (ne_eqb i j (λ e. ne (sym e))) refl, refl)

  quiet-link_bytes : (i : ℕ) (piece : List ℕ) (j : ℕ) → (j ≡ i → ⊥) → IsQuietFor j (events.LinkBytes i piece)
  quiet-link_bytes i piece j ne = (refl, refl, rw (ne_eqb i j (λ e. ne (sym e))) refl)

  quiet-linked : (i j : ℕ) → (j ≡ i → ⊥) → IsQuietFor j (events.Linked i)
  quiet-linked i j ne = (ne_eqb i j (λ e. ne (sym e)), refl, refl)

  out-keeps : (m i k : ℕ) → has_link setup m i ≡ true → monitor_tests.Accepts (known setup w m) (events.LinkTook i k) →
      Keeps setup (after setup w (Inform m (events.LinkTook i k))) (with_ends m i (ends_out f m i (events.LinkTook i k)) (informed_on m (events.LinkTook i k) f))
  out-keeps m i k there ok =
      let event = events.LinkTook i k in
      let ends = f.link m i in
      inform-at m i event ok (ends_out f m i event)
      (informed-link setup m i (w.connection m i) w.server (w.monitor m) ends (ends_out f m i event) (keeps.link m i there) refl event
      ((s.monitors m).accepted, ok) (line-within setup m i there) refl (((s.monitors m).links i there).out)
      (λ up.
      ap (λ b. put_on b (take (put_in i (events.LinkTook i k)) (monitor_tests.waiting_on (monitor_tests.watch_at i (f.monitor m).watches))) ends.to_server) (same-open setup w f keeps tells m i there ∙ up)
      ∙ ap (λ bytes. ends.to_server ++ take (put_in i (events.LinkTook i k)) bytes) (same-monitor_waits setup w f keeps tells m i there))
      refl)
      (quiet-link_took i k)

  land-keeps : (m i : ℕ) (piece : List ℕ) → has_link setup m i ≡ true → monitor_tests.Accepts (known setup w m) (events.LinkBytes i piece) →
      Keeps setup (after setup w (Inform m (events.LinkBytes i piece))) (with_ends m i (ends_landed f m i (events.LinkBytes i piece)) (informed_on m (events.LinkBytes i piece) f))
  land-keeps m i piece there ok =
      let event = events.LinkBytes i piece in
      let ends = f.link m i in
      inform-at m i event ok (ends_landed f m i event)
      (informed-link setup m i (w.connection m i) w.server (w.monitor m) ends (ends_landed f m i event) (keeps.link m i there) refl event
      ((s.monitors m).accepted, ok) (line-within setup m i there) refl (((s.monitors m).links i there).out)
      (λ up. sym (append-nil ends.to_server)) refl)
      (quiet-link_bytes i piece)

  -- ---- a link is made

  free : (m i : ℕ) → has_link setup m i ≡ true → is_linked setup w m i ≡ false → monitor_tests.refusal (known setup w m) (events.Linked i) ≡ None
  free m i there cut = grind (arith, get_at, line-within, no-link)

  join-keeps : (m i : ℕ) → has_link setup m i ≡ true → is_linked setup w m i ≡ false →
      server_tests.refusal (served setup w) (arrivals.Open (address_of m)) ≡ None →
      Keeps setup (after setup w (Join m i)) (with_ends m i (ends_made f) (informed_on m (events.Linked i) (told_on (arrivals.Open (address_of m)) f)))
  join-keeps m i there cut ok = record {
    server = server-told e ok;
    monitor = monitor-told m (events.Linked i) accepts;
    link = with-link m i (ends_made f) f.link (λ k j ends. has_link setup k j ≡ true → KeepsLink setup k j (v.connection k j) v.server (v.monitor k) ends) (λ has. own)
        (λ k j ne has. subst (λ c. KeepsLink setup k j c v.server (v.monitor k) (f.link k j)) (sym (one-other m i (suc (served setup w).opened) w.connection k j ne)) (other k j has ne));
  }
    where
      e : arrivals.Event
      e = arrivals.Open (address_of m)

      v : World
      v = after setup w (Join m i)

      accepts : monitor_tests.Accepts (known setup w m) (events.Linked i)
      accepts = (free m i there cut, tt)

      empty : (to_server setup (after setup w (Join m i)) m i ≡ []) × (to_monitor setup (after setup w (Join m i)) m i ≡ [])
      empty = moves-made setup earlier w s m i there cut ok

      own : KeepsLink setup m i ((after setup w (Join m i)).connection m i) (after setup w (Join m i)).server ((after setup w (Join m i)).monitor m) (ends_made f)
      own = record {
        connection = ap (λ x. suc (let y : server.Content = x in y.opened)) keeps.server ∙ sym (one-own m i (suc (served setup w).opened) w.connection);
        to_server = from-if (is_open setup (after setup w (Join m i)) m i) _ empty.0;
        to_monitor = from-if (is_linked setup (after setup w (Join m i)) m i) _ empty.1;
      }

      other : (k j : ℕ) → has_link setup k j ≡ true → ((k ≡ m) × (j ≡ i) → ⊥) →
          KeepsLink setup k j (w.connection k j) (after setup w (Join m i)).server ((after setup w (Join m i)).monitor k) (f.link k j)
      other k j has ne = elim (cases_eq k m) [
        | inl same ↦
            let has' : has_link setup m j ≡ true = subst (λ x. has_link setup x j ≡ true) same has in
            subst (λ x. KeepsLink setup x j (w.connection x j) (arrivals.Open (address_of m) ∷ w.server) (for_monitor m (informed (monitor_of setup m) (w.monitor m) (events.Linked i)) w.monitor x) (f.link x j)) (sym same)
            (subst (λ x. KeepsLink setup m j (w.connection m j) (arrivals.Open (address_of m) ∷ w.server) x (f.link m j)) (sym (for-own m (informed (monitor_of setup m) (w.monitor m) (events.Linked i)) w.monitor))
            (informed-quiet m (events.Linked i) accepts j (w.connection m j) (arrivals.Open (address_of m) ∷ w.server) has' (quiet-linked i j (λ equal. ne (same, equal)))
            (((s.monitors m).links j has').out)
            (link-quiet (arrivals.Open (address_of m)) ok m j has' (refl, refl))))
        | inr differ ↦
            subst (λ x. KeepsLink setup k j (w.connection k j) (arrivals.Open (address_of m) ∷ w.server) x (f.link k j)) (sym (for-other m k (informed (monitor_of setup m) (w.monitor m) (events.Linked i)) w.monitor differ))
            (link-quiet (arrivals.Open (address_of m)) ok k j has (refl, refl))
      ]

  -- ---- what is told

  same-heard : (m : ℕ) (event : events.Event) → monitor_tests.Accepts (known setup w m) event → heard_news m (f.monitor m) event ≡ news_of setup w (Inform m event)
  same-heard m event ok =
      rw (keeps.monitor m, ← monitor_kept.keeps-content (monitor_of setup m) (w.monitor m) event ((s.monitors m).accepted, ok))

  -- ---- a step

  abbrev Goes : Step → Deed → Type 0
  Goes step d = Keeps setup (after setup w d) (moved_by f d step) × (news_by f d ≡ news_of setup w d)

  when-test : (step : Step) (b : Bool) (d : Deed) → (b ≡ true → Goes step d) → Goes step (if b then d else Skip)
  when-test step b d goes = grind (arith, goes)

  when-carried : (step : Step) (bytes : List ℕ) (d : List ℕ → Deed) → Goes step (d bytes) → Goes step (carried bytes d)
  when-carried step bytes d goes = grind (arith, goes)

  when-counted : (step : Step) (n : ℕ) (d : ℕ → Deed) → Goes step (d n) → Goes step (counted n d)
  when-counted step n d goes = elim (cases_Bool (n == 0)) [ inl e ↦ rw e (keeps, refl) | inr e ↦ rw e goes ]

  told-goes : (step : Step) (e : arrivals.Event) → (server_tests.refusal (served setup w) e ≡ None → Keeps setup (after setup w (Tell e)) (moved_by f (Tell e) step)) →
      Goes step (tell setup w e)
  told-goes step e goes = when-test step (is_none (server_tests.refusal (served setup w) e)) (Tell e) (λ ok. (goes (is_none-true (server_tests.refusal (served setup w) e) ok), refl))

  heard-goes : (step : Step) (m : ℕ) (event : events.Event) → monitor_tests.IsGiven (known setup w m) event →
      (monitor_tests.Accepts (known setup w m) event → Keeps setup (after setup w (Inform m event)) (moved_by f (Inform m event) step)) →
      Goes step (inform setup w m event)
  heard-goes step m event given goes =
      when-test step (is_none (monitor_tests.refusal (known setup w m) event)) (Inform m event) (λ ok.
      let accepts : monitor_tests.Accepts (known setup w m) event = (is_none-true (monitor_tests.refusal (known setup w m) event) ok, given) in
      (goes accepts, same-heard m event accepts))

  made-goes : (m i : ℕ) → has_link setup m i ≡ true → Goes (Link m i) (deed_of setup w (Link m i))
  made-goes m i there =
      when-test (Link m i)
      (not (is_open setup w m i) && not (is_linked setup w m i) && is_none (server_tests.refusal (served setup w) (arrivals.Open (address_of m)))) (Join m i)
      (λ ok.
      let parts = and_parts (not (is_open setup w m i) && not (is_linked setup w m i)) (is_none (server_tests.refusal (served setup w) (arrivals.Open (address_of m)))) ok in
      let cut = and_parts (not (is_open setup w m i)) (not (is_linked setup w m i)) parts.0 in
      let closed : is_linked setup w m i ≡ false = not-true (is_linked setup w m i) cut.1 in (
        join-keeps m i there closed (is_none-true (server_tests.refusal (served setup w) (arrivals.Open (address_of m))) parts.1),
        same-heard m (events.Linked i) (free m i there closed, tt),
      ))

  goes : (step : Step) → is_fit setup step ≡ true → Goes step (deed_of setup w step)
  goes (ServerClock t) ok = told-goes (ServerClock t) (arrivals.Moment t) (λ e. tell-quiet (arrivals.Moment t) e (λ c. (refl, refl)))
  goes (MonitorClock m t) ok = heard-goes (MonitorClock m t) m (events.Moment t) tt (λ e. inform-quiet m (events.Moment t) e (λ i. (refl, refl, refl)))
  goes (Up u) ok = told-goes (Up u) (arrivals.DriverUp u) (λ e. tell-quiet (arrivals.DriverUp u) e (λ c. (refl, refl)))
  goes (Driver u line) ok =
      told-goes (Driver u line) (arrivals.DriverBytes u (line ++ 10 ∷ [])) (λ e. tell-quiet (arrivals.DriverBytes u (line ++ 10 ∷ [])) e (λ c. (refl, refl)))
  goes (Down u) ok = told-goes (Down u) (arrivals.DriverDown u) (λ e. tell-quiet (arrivals.DriverDown u) e (λ c. (refl, refl)))
  goes (Link m i) ok = made-goes m i ok
  goes (Out m i n) ok =
      when-test (Out m i n) (is_linked setup w m i) (counted (moved n (monitor_waits setup w m i)) (λ k. inform setup w m (events.LinkTook i k))) (λ up.
      when-counted (Out m i n) (moved n (monitor_waits setup w m i)) (λ k. inform setup w m (events.LinkTook i k))
      (heard-goes (Out m i n) m (events.LinkTook i (moved n (monitor_waits setup w m i))) tt (out-keeps m i (moved n (monitor_waits setup w m i)) ok)))
  goes (Reach m i n) ok =
      when-test (Reach m i n) (is_open setup w m i) (carried (take (min n PIECE_MAX) (to_server setup w m i)) (λ piece. tell setup w (arrivals.Bytes (w.connection m i) piece))) (λ up.
      when-carried (Reach m i n) (take (min n PIECE_MAX) (to_server setup w m i)) (λ piece. tell setup w (arrivals.Bytes (w.connection m i) piece))
      (told-goes (Reach m i n) (arrivals.Bytes (w.connection m i) (take (min n PIECE_MAX) (to_server setup w m i))) (reach-keeps m i (take (min n PIECE_MAX) (to_server setup w m i)) ok up)))
  goes (Back m i n) ok =
      when-test (Back m i n) (is_open setup w m i) (counted (moved n (server_waits setup w m i)) (λ k. tell setup w (arrivals.Took (w.connection m i) k))) (λ up.
      when-counted (Back m i n) (moved n (server_waits setup w m i)) (λ k. tell setup w (arrivals.Took (w.connection m i) k))
      (told-goes (Back m i n) (arrivals.Took (w.connection m i) (moved n (server_waits setup w m i))) (back-keeps m i (moved n (server_waits setup w m i)) ok up)))
  goes (Land m i n) ok =
      when-test (Land m i n) (is_linked setup w m i) (carried (take (min n PIECE_MAX) (to_monitor setup w m i)) (λ piece. inform setup w m (events.LinkBytes i piece))) (λ up.
      when-carried (Land m i n) (take (min n PIECE_MAX) (to_monitor setup w m i)) (λ piece. inform setup w m (events.LinkBytes i piece))
      (heard-goes (Land m i n) m (events.LinkBytes i (take (min n PIECE_MAX) (to_monitor setup w m i))) tt (land-keeps m i (take (min n PIECE_MAX) (to_monitor setup w m i)) ok)))
  goes (CutServer m i) ok = told-goes (CutServer m i) (arrivals.Close (w.connection m i)) (λ e. tell-quiet (arrivals.Close (w.connection m i)) e (λ c. (refl, refl)))
  goes (CutMonitor m i) ok = heard-goes (CutMonitor m i) m (events.LinkLost i) tt (λ e. inform-quiet m (events.LinkLost i) e (λ j. (refl, refl, refl)))
  goes step ok = cc

  pub goes-on : (step : Step) → is_fit setup step ≡ true → Keeps setup (world setup (step ∷ earlier)) (moved_on f step)
  goes-on step ok = grind (arith, same-deed, goes)

  pub tells-so : (step : Step) → is_fit setup step ≡ true → news_seen f step ≡ news setup w step
  tells-so step ok = ap (news_by f) (same-deed setup w f keeps tells step ok) ∙ (goes step ok).1 ∙ sym (ap (news_of setup w) (played-is setup w step ok))

  if-same : (a b : Bool) (x y : List ℕ) → a ≡ b → (b ≡ true → x ≡ y) → (if a then x else []) ≡ (if b then y else [])
  if-same a b x y e same = grind (arith, e)

  pub counts-so : Stands setup w (what_counts f)
  counts-so = grind (arith, if-same, same-open, same-linked)

-- ---- `Keeps` from `Stands`
module _ (setup : Setup) (w : World) (tells : ContentsTell setup w) (f : Fleet) (stands : Stands setup w (what_counts f)) where
  if-true : (a b : Bool) (x y : List ℕ) → a ≡ b → b ≡ true → (if a then x else []) ≡ (if b then y else []) → x ≡ y
  if-true a b x y e up same = grind (arith, e)

  pub kept-so : Keeps setup w f
  kept-so = grind (arith, if-true)

pub fleets-go_on : (setup : Setup) → IsLawful setup.server → IsSetup setup → (schedule : List Step) → FleetsGoOn setup schedule
fleets-go_on setup law fine schedule =
    let s = sound setup law fine schedule in
    let tells = contents-tell setup law fine schedule in
    record {
      goes_on = λ f step ok keeps. goes-on setup schedule s tells f keeps step ok;
      tells = λ f step ok keeps. tells-so setup schedule s tells f keeps step ok;
      does = λ f step ok keeps. does-so setup (world setup schedule) f keeps tells step ok;
      ends = λ f keeps m i there. (same-open setup (world setup schedule) f keeps tells m i there, same-linked setup (world setup schedule) f keeps tells m i there);
      counts = λ f keeps. counts-so setup schedule s tells f keeps;
      kept = λ f stands. kept-so setup (world setup schedule) tells f stands;
    }
