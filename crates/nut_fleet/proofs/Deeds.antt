-- What holds of a world after a deed that is done only if a test holds, or only if there are bytes to move.
use Rattle.std.proofs.Common.{arith}
use Rattle.std.proofs.Common.{◌≡◌, ◌⊎◌, ℕ, ◌==◌, ◌&&◌, ◌||◌, ◌++◌, not, min, take, is_none, Bool, true, false, inl, inr, List, [], ◌∷◌, refl}
use Rattle.std.specs.Prelude.{if◌then◌else◌}
use Rattle.std.proofs.lemmas.Bool.{and_parts, cases_Bool, eqb-true, not-true}
use Rattle.nut_words.specs.declared.limits.TheConstants.{PIECE_MAX}
use Rattle.nut_server_spec.specs.Configuration.{Configuration}
use Rattle.nut_server_spec.specs.Event as arrivals
use Rattle.nut_server_spec.specs.Acceptance as server_tests
use Rattle.nut_monitor_spec.specs.Event as events
use Rattle.nut_monitor_spec.specs.Acceptance as monitor_tests
use Rattle.nut_fleet.specs.Schedule.{Step, ServerClock, MonitorClock, Up, Driver, Down, Link, Out, Reach, Back, Land, CutServer, CutMonitor, Call, Accept, Write, Other}
use Rattle.nut_fleet.specs.World.{Setup, World, Deed, Skip, Tell, Inform, Join, Renew, Meet, served, known, is_open, is_linked, to_server, to_monitor, server_waits, monitor_waits, tell, inform, carried, counted, moved, address_of, has_link, is_fit, is_other, is_unknown, deed, deed_of, heeded, kept_from, may_tell, after}

-- a step that is played if a test holds
pub if-played : (P : World → Type 0) (setup : Setup) (w : World) (b : Bool) (d : Deed) → P w → (b ≡ true → P (after setup w d)) → P (after setup w (if b then d else Skip))
if-played P setup w b d same played = grind arith

pub if-carried : (P : World → Type 0) (setup : Setup) (w : World) (bytes : List ℕ) (d : List ℕ → Deed) → P w → P (after setup w (d bytes)) → P (after setup w (carried bytes d))
if-carried P setup w bytes d same played = grind arith

pub if-counted : (P : World → Type 0) (setup : Setup) (w : World) (n : ℕ) (d : ℕ → Deed) → P w → P (after setup w (d n)) → P (after setup w (counted n d))
if-counted P setup w n d same played = elim (cases_Bool (n == 0)) [ inl e ↦ rw e same | inr e ↦ rw e played ]

-- ---- what any step does

-- Bytes come on the connection of a link, or others may send them; a reload is one that others may tell.
abbrev pub IsFair : Setup → World → arrivals.Event → Type 0
IsFair setup w (arrivals.Bytes c piece) = ((m i : ℕ) × (has_link setup m i ≡ true) × (w.connection m i ≡ c)) ⊎ (may_tell setup w (arrivals.Bytes c piece) ≡ true)
IsFair setup w (arrivals.Reload new) = (k : Configuration) × (new ≡ kept_from setup.server k) × (may_tell setup w (arrivals.Reload new) ≡ true)
IsFair setup w event = Unit {0}

fair : (setup : Setup) (w : World) (event : arrivals.Event) → may_tell setup w (heeded setup.server event) ≡ true → IsFair setup w (heeded setup.server event)
fair setup w (arrivals.Bytes c piece) may = inr may
fair setup w (arrivals.Reload new) may = (new, refl, may)
fair setup w event may = tt

pub or-false : (b : Bool) → (b || false) ≡ true → b ≡ true
or-false b is = grind arith

-- What holds of a world, and once the server or a monitor was told something, once a link whose ends were cut was made, and
-- once an end of one was.
module _ (setup : Setup) (w : World) (P : World → Type 0) (same : P w) (on_tell : (event : arrivals.Event) → IsFair setup w event → P (after setup w (Tell event)))
    (on_inform : (m : ℕ) (event : events.Event) → P (after setup w (Inform m event)))
    (on_join : (m i : ℕ) → is_open setup w m i ≡ false → is_linked setup w m i ≡ false → P (after setup w (Join m i)))
    (on_renew : (m i : ℕ) → has_link setup m i ≡ true → is_none (monitor_tests.refusal (known setup w m) (events.Linked i)) ≡ true → P (after setup w (Renew m i)))
    (on_meet : (m i c : ℕ) → has_link setup m i ≡ true → w.connection m i ≡ 0 → is_unknown setup w c ≡ true → P (after setup w (Meet m i c))) where
  told : (event : arrivals.Event) → IsFair setup w event → P (after setup w (tell setup w event))
  told event is = if-played P setup w (is_none (server_tests.refusal (served setup w) event)) (Tell event) same (λ ok. on_tell event is)

  heard : (m : ℕ) (event : events.Event) → P (after setup w (inform setup w m event))
  heard m event = if-played P setup w (is_none (monitor_tests.refusal (known setup w m) event)) (Inform m event) same (λ ok. on_inform m event)

  by : (step : Step) → (is_other setup step || is_fit setup step) ≡ true → P (after setup w (deed_of setup w step))
  by (ServerClock t) fits = told (arrivals.Moment t) tt
  by (MonitorClock m t) fits = heard m (events.Moment t)
  by (Up u) fits = told (arrivals.DriverUp u) tt
  by (Driver u line) fits = told (arrivals.DriverBytes u (line ++ 10 ∷ [])) tt
  by (Down u) fits = told (arrivals.DriverDown u) tt
  by (Link m i) fits =
      let free = not (is_open setup w m i) && not (is_linked setup w m i) in
      let room = is_none (server_tests.refusal (served setup w) (arrivals.Open (address_of m))) in
      if-played P setup w (free && room) (Join m i) same
      (λ ok.
      let cut = and_parts (not (is_open setup w m i)) (not (is_linked setup w m i)) (and_parts free room ok).0 in
      on_join m i (not-true (is_open setup w m i) cut.0) (not-true (is_linked setup w m i) cut.1))
  by (Out m i n) fits =
      let deed = λ (k : ℕ). inform setup w m (events.LinkTook i k) in
      let k = moved n (monitor_waits setup w m i) in
      if-played P setup w (is_linked setup w m i) (counted k deed) same (λ ok. if-counted P setup w k deed same (heard m (events.LinkTook i k)))
  by (Reach m i n) fits =
      let deed = λ (bytes : List ℕ). tell setup w (arrivals.Bytes (w.connection m i) bytes) in
      let piece = take (min n PIECE_MAX) (to_server setup w m i) in
      if-played P setup w (is_open setup w m i) (carried piece deed) same (λ ok. if-carried P setup w piece deed same (told (arrivals.Bytes (w.connection m i) piece) (inl (m, i, fits, refl))))
  by (Back m i n) fits =
      let deed = λ (k : ℕ). tell setup w (arrivals.Took (w.connection m i) k) in
      let k = moved n (server_waits setup w m i) in
      if-played P setup w (is_open setup w m i) (counted k deed) same (λ ok. if-counted P setup w k deed same (told (arrivals.Took (w.connection m i) k) tt))
  by (Land m i n) fits =
      let deed = λ (bytes : List ℕ). inform setup w m (events.LinkBytes i bytes) in
      let piece = take (min n PIECE_MAX) (to_monitor setup w m i) in
      if-played P setup w (is_linked setup w m i) (carried piece deed) same (λ ok. if-carried P setup w piece deed same (heard m (events.LinkBytes i piece)))
  by (CutServer m i) fits = told (arrivals.Close (w.connection m i)) tt
  by (CutMonitor m i) fits = heard m (events.LinkLost i)
  by (Call m i) fits =
      if-played P setup w (is_none (monitor_tests.refusal (known setup w m) (events.Linked i))) (Renew m i) same (λ ok. on_renew m i (or-false (has_link setup m i) fits) ok)
  by (Accept m i c) fits =
      if-played P setup w (w.connection m i == 0 && is_unknown setup w c) (Meet m i c) same
      (λ ok. let parts = and_parts (w.connection m i == 0) (is_unknown setup w c) ok in
      on_meet m i c (or-false (has_link setup m i) fits) (eqb-true (w.connection m i) 0 parts.0) parts.1)
  by (Write m i n) fits = heard m (events.LinkTook i n)
  by (Other e) fits = if-played P setup w (may_tell setup w (heeded setup.server e)) (tell setup w (heeded setup.server e)) same (λ may. told (heeded setup.server e) (fair setup w e may))

  pub each-deed-open : (step : Step) → P (after setup w (deed setup w step))
  each-deed-open step = if-played P setup w (is_other setup step || is_fit setup step) (deed_of setup w step) same (λ ok. by step ok)

-- the same, if it doesn't matter that the server's end was cut
pub each-deed : (setup : Setup) (w : World) (P : World → Type 0) → P w → ((event : arrivals.Event) → IsFair setup w event → P (after setup w (Tell event))) →
    ((m : ℕ) (event : events.Event) → P (after setup w (Inform m event))) → ((m i : ℕ) → is_linked setup w m i ≡ false → P (after setup w (Join m i))) →
    ((m i : ℕ) → has_link setup m i ≡ true → is_none (monitor_tests.refusal (known setup w m) (events.Linked i)) ≡ true → P (after setup w (Renew m i))) →
    ((m i c : ℕ) → has_link setup m i ≡ true → w.connection m i ≡ 0 → is_unknown setup w c ≡ true → P (after setup w (Meet m i c))) →
    (step : Step) → P (after setup w (deed setup w step))
each-deed setup w P same on_tell on_inform on_join on_renew on_meet step =
    each-deed-open setup w P same on_tell on_inform (λ m i shut cut. on_join m i cut) on_renew on_meet step
