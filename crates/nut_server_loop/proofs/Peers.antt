-- What is known of a peer for which bytes wait, and of one that leaves.
use Rattle.std.proofs.Common.{◌≡◌, ◌≢◌, ℕ, ◌<◌, ◌≤◌, Bool, true, false, List, [], length, drop, take, ◌∷◌, ◌++◌, Option, Some, None, if◌then◌else◌, refl, sym, ◌∙◌, ap, subst, arith}
use Rattle.std.specs.Prelude.{option_map}
use Rattle.std.proofs.lemmas.Bool.{eqb-true, eq-eqb, le-ltb, ne_eqb}
use Rattle.nut_server_spec.specs.declared.Place.TheVariants.{Line}
use Rattle.nut_server_spec.specs.Configuration.{Configuration}
use Rattle.nut_server_spec.specs.Event.{Event}
use Rattle.nut_server_spec.specs.Event as event
use Rattle.nut_server_spec.specs.Trace.{connected, driver_due, driver_taken}
use Rattle.nut_server_spec.specs.Content.{Session, Supply, Content, content, past, down}
use Rattle.nut_server_spec.specs.Acceptance.{refusal, took_refusal, close_refusal, drain_refusal, down_refusal, Tells, session_of, waiting_in, supply_of, leaves}
use Rattle.nut_server_spec.specs.machine.Machine.{advance}
use Rattle.nut_server_spec.proofs.Kept.{supply_is}
use Rattle.nut_server_spec.proofs.Sent.{sent-took_told}
use Rattle.nut_server_spec.proofs.DriverSent.{driver_sent-took_told, asks_in}
use Rattle.nut_server_spec.proofs.Sessions.{session_of-update_other, session_of-without, session_of-without_other, waiting_of-took}
use Rattle.nut_server_spec.proofs.Others.{advance-other_driver, advance-driver_took, advance-driver_down}
use Rattle.nut_io.specs.declared.types.Written.{Written}
use Rattle.nut_io.specs.declared.types.Written.TheVariants.{Took, Later, Failed}
use Rattle.nut_server_loop.specs.Record.{is_peer, late_after, waits_of, leaves_at}
use Rattle.nut_server_loop.specs.Served.{took, failed, sent_to}
use Rattle.nut_server_loop.specs.declared.types.Peer.{Peer}
use Rattle.nut_server_loop.specs.declared.types.Peer.TheVariants.{Connection, Driver}
use Rattle.nut_server_loop.proofs.Begun.{taken_in}
use Rattle.nut_server_loop.proofs.Steps.{TakesNoMemory}

-- ---- peers

pub is_peer-true : (p q : Peer) → is_peer p q ≡ true → p ≡ q
is_peer-true (Connection c) (Connection d) e = ap Connection (eqb-true c d e)
is_peer-true (Driver u) (Driver v) e = ap Driver (eqb-true u v e)
is_peer-true (Connection c) (Driver u) e = absurd (cc)
is_peer-true (Driver u) (Connection c) e = absurd (cc)

pub is_peer-self : (p : Peer) → is_peer p p ≡ true
is_peer-self (Connection c) = eq-eqb c c refl
is_peer-self (Driver u) = eq-eqb u u refl

-- ---- no memory is needed to note an outcome or an end

pub no_memory_took : (p : Peer) (n : ℕ) → TakesNoMemory (took p n)
no_memory_took (Connection c) n first h (Line d k) lacks = lacks
no_memory_took (Connection c) n first h place lacks = lacks
no_memory_took (Driver u) n first h (Line d k) lacks = lacks
no_memory_took (Driver u) n first h place lacks = lacks

pub no_memory_failed : (p : Peer) → TakesNoMemory (failed p)
no_memory_failed (Connection c) first h (Line d k) lacks = lacks
no_memory_failed (Connection c) first h place lacks = lacks
no_memory_failed (Driver u) first h (Line d k) lacks = lacks
no_memory_failed (Driver u) first h place lacks = lacks

pub no_memory_close : (c : ℕ) → TakesNoMemory (event.Close c)
no_memory_close c first h (Line d k) lacks = lacks
no_memory_close c first h place lacks = lacks

-- ---- a connection for which bytes wait is open, and so is one that is to be closed

took_free : (n : ℕ) (o : Option Session) → 0 < n → n ≤ length (waiting_in o) → took_refusal n o ≡ None
took_free n None some within = absurd (omega arith)
took_free n (Some k) some within = rw (le-ltb (length k.waits) n within) refl

waiting_open : (o : Option Session) → 0 < length (waiting_in o) → close_refusal o ≡ None
waiting_open None some = absurd (omega arith)
waiting_open (Some k) some = refl

leaving_open : (o : Option Session) → leaves o ≡ true → close_refusal o ≡ None
leaving_open None left = cc
leaving_open (Some k) left = refl

pub may_close : (s : Content) (c : ℕ) → leaves (session_of c s.sessions) ≡ true → refusal s (event.Close c) ≡ None
may_close s c left = leaving_open (session_of c s.sessions) left

-- ---- a driver for which bytes wait is connected

waits_up : (is : Bool) (all : List ℕ) → 0 < length (if is then all else []) → is ≡ true
waits_up true all some = refl
waits_up false all some = absurd (omega arith)

abbrev IsUp : Option Supply → Type 0
IsUp o = (d : Supply) → o ≡ Some d → 0 < length d.device.waits → d.device.connected ≡ true

pub up_here : (first : Configuration) (h : List Event) (u : ℕ) → IsUp (supply_of u (content first h).supplies)
up_here first h u d found some =
    let same = supply_is first h u d found in
    ap (λ d. d.device.connected) same
    ∙ waits_up (connected u (past first h)) (drop (driver_taken u (past first h)) (driver_due u (past first h))) (subst (λ (d : Supply). 0 < length d.device.waits) same some)

is_up : (first : Configuration) (h : List Event) (s : Content) (u : ℕ) → Tells first h s → IsUp (supply_of u s.supplies)
is_up first h s u told = subst (λ (t : Content). IsUp (supply_of u t.supplies)) (sym told.1) (up_here first h u)

drain_free : (n : ℕ) (o : Option Supply) → IsUp o → 0 < n → n ≤ length (asks_in o) → drain_refusal n o ≡ None
drain_free n None up some within = absurd (omega arith)
drain_free n (Some d) up some within =
    let is : d.device.connected ≡ true = up d refl (omega arith) in
    rw (is, le-ltb (length d.device.waits) n within) refl

down_free : (o : Option Supply) → IsUp o → 0 < length (asks_in o) → down_refusal o ≡ None
down_free None up some = absurd (omega arith)
down_free (Some d) up some = rw (up d refl some) refl

-- ---- so a write to a peer may take and may fail

pub may_take : (first : Configuration) (h : List Event) (s : Content) (p : Peer) (n : ℕ) → Tells first h s → 0 < n → n ≤ length (waits_of p s) → refusal s (took p n) ≡ None
may_take first h s (Connection c) n told some within = took_free n (session_of c s.sessions) some within
may_take first h s (Driver u) n told some within = drain_free n (supply_of u s.supplies) (is_up first h s u told) some within

pub may_fail : (first : Configuration) (h : List Event) (s : Content) (p : Peer) → Tells first h s → 0 < length (waits_of p s) → refusal s (failed p) ≡ None
may_fail first h s (Connection c) told some = waiting_open (session_of c s.sessions) some
may_fail first h s (Driver u) told some = down_free (supply_of u s.supplies) (is_up first h s u told) some

-- ---- what a peer takes in an outcome

pub taken_in-took : (p q : Peer) (n : ℕ) → taken_in (took p n) q ≡ (if is_peer p q then n else 0)
taken_in-took (Connection c) (Connection d) n = refl
taken_in-took (Connection c) (Driver v) n = refl
taken_in-took (Driver u) (Connection d) n = refl
taken_in-took (Driver u) (Driver v) n = refl

pub taken_in-failed : (p q : Peer) → taken_in (failed p) q ≡ 0
taken_in-failed (Connection c) q = refl
taken_in-failed (Driver u) q = refl

pub sent_to-took : (first : Configuration) (h : List Event) (s : Content) (p : Peer) (n : ℕ) → Tells first h s → refusal s (took p n) ≡ None
    → sent_to first p (took p n ∷ h) ≡ sent_to first p h ++ take n (waits_of p s)
sent_to-took first h s (Connection c) n told free = sent-took_told first h s c n told free
sent_to-took first h s (Driver u) n told free = driver_sent-took_told first h s u n told free

-- ---- what waits after an outcome

pub waits_of-took : (s : Content) (p : Peer) (n : ℕ) → waits_of p (advance s (took p n)) ≡ drop n (waits_of p s)
waits_of-took s (Connection c) n = waiting_of-took c n s.sessions
waits_of-took s (Driver u) n = advance-driver_took s u n

pub waits_of-failed : (s : Content) (p : Peer) → waits_of p (advance s (failed p)) ≡ []
waits_of-failed s (Connection c) = ap waiting_in (session_of-without c s.sessions)
waits_of-failed s (Driver u) = ap asks_in (advance-driver_down s u) ∙ asks_nothing (supply_of u s.supplies) where
  asks_nothing : (o : Option Supply) → asks_in (option_map down o) ≡ []
  asks_nothing None = refl
  asks_nothing (Some d) = refl

-- What waits for a peer, and whether it leaves, is the same.
abbrev pub IsSame : Peer → Content → Content → Type 0
IsSame q new old = (waits_of q new ≡ waits_of q old) × (leaves_at q new ≡ leaves_at q old)

same_session : (d : ℕ) (new old : Content) → session_of d new.sessions ≡ session_of d old.sessions → IsSame (Connection d) new old
same_session d new old same = (ap waiting_in same, ap leaves same)

differ : (K : ℕ → Peer) (m n : ℕ) → K m ≢ K n → m ≢ n
differ K m n ne same = ne (ap K same)

pub others-took : (s : Content) (p q : Peer) (n : ℕ) → q ≢ p → IsSame q (advance s (took p n)) s
others-took s (Connection c) (Connection d) n ne =
    same_session d (advance s (event.Took c n)) s (session_of-update_other c d (λ k. record k { waits = drop n k.waits }) s.sessions (λ k. refl) (ne_eqb d c (differ Connection d c ne)))
others-took s (Connection c) (Driver v) n ne = (refl, refl)
others-took s (Driver u) (Connection d) n ne = (refl, refl)
others-took s (Driver u) (Driver v) n ne =
    (ap asks_in (advance-other_driver s (event.DriverTook u n) v u refl (ne_eqb u v (λ same. ne (ap Driver (sym same))))), refl)

pub others-failed : (s : Content) (p q : Peer) → q ≢ p → IsSame q (advance s (failed p)) s
others-failed s (Connection c) (Connection d) ne =
    same_session d (advance s (event.WriteFailed c)) s (session_of-without_other c d s.sessions (ne_eqb d c (differ Connection d c ne)))
others-failed s (Connection c) (Driver v) ne = (refl, refl)
others-failed s (Driver u) (Connection d) ne = (refl, refl)
others-failed s (Driver u) (Driver v) ne =
    (ap asks_in (advance-other_driver s (event.DriverDown u) v u refl (ne_eqb u v (λ same. ne (ap Driver (sym same))))), refl)

-- ---- who is late

-- A write leaves late who was.
pub stays_late : (w : Written) (p : Peer) (late late' : Peer → Bool) → ((q : Peer) → late' q ≡ late_after w p late q) → (q : Peer) → late q ≡ true → late' q ≡ true
stays_late (Took n) p late late' says q is = says q ∙ is
stays_late Later p late late' says q is = says q ∙ rw is refl
stays_late Failed p late late' says q is = says q ∙ is
