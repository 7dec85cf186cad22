-- One step of the machine keeps the content, as given by the past and the unfinished lines.
use Rattle.std.proofs.Common.{◌≡◌, ℕ, ◌+◌, ◌≤◌, Bool, true, false, not, eqb, List, [], ◌∷◌, ◌++◌, filter, map, drop, length, refl, sym, ◌∙◌, ap, arith, inl, inr, drop-drop, Option, Some, None, subst}
use Rattle.std.specs.Prelude.{◌==◌, if◌then◌else◌, max}
use Rattle.std.proofs.Math.Seq.{drop-nil}
use Rattle.std.proofs.lemmas.Bool.{cases_Bool, eqb-true, eqb-false, ne_eqb, eq-eqb}
use Rattle.std.proofs.lemmas.List.{drop-append-le}
use Rattle.nut_words.specs.Lines.{LineText, Text, rest}
use Rattle.nut_server_spec.specs.Configuration.{Configuration}
use Rattle.nut_server_spec.specs.Command.{Command, command_of}
use Rattle.nut_server_spec.specs.Device.{Device, needs_ping}
use Rattle.nut_proto.specs.declared.driver_ask.DriverAsk.TheVariants.{Ping}
use Rattle.nut_proto.specs.DriverAsks.{ask_line}
use Rattle.nut_server_spec.specs.Effect.{target, number_in, forced_then, request_of, at_target}
use Rattle.nut_server_spec.specs.Tracking.{with_tracked}
use Rattle.nut_server_spec.specs.Event.{Event, Moment, Took, Close, DriverUp, DriverTook, DriverDown, Said, Reported, input, taken, driver_input}
use Rattle.nut_server_spec.specs.Answer.{Answer}
use Rattle.nut_server_spec.specs.Trace.{Entry, configuration, numbers, numbering, clock, opened, open_numbers, address, user, password, login, logged_out, tracking, given, tracked, due, device, connected, forced, driver_due, driver_taken, driver_waits, ups_numbers, scene, with_request, pinged_at}
use Rattle.nut_server_spec.specs.Content.{Session, Supply, Content, past, content, session, supply}
use Rattle.nut_server_spec.specs.laws.Laws.{IsBelow, IsRising}
use Rattle.nut_server_spec.specs.machine.Machine.{advance, update, with_rest, with_sessions, without, answered, acted, act_on, reported_by, ticked, scene_of}
use Rattle.nut_server_spec.specs.Numbering.{Kept}
use Rattle.nut_server_spec.proofs.Numbers.{open_numbers_rise}
use Rattle.nut_server_spec.proofs.Places.{update-below, map-twice, map-same}
use Rattle.std.specs.Option.{option_map_or}

-- a session, a UPS and a content, from the past, the unfinished lines and the amounts taken
abbrev pub session_from : Configuration → List Entry → (ℕ → LineText) → (ℕ → ℕ) → ℕ → Session
session_from first t rests takes c = record {
  number = c;
  address = address c t;
  user = user c t;
  password = password c t;
  login = login first c t;
  logged_out = logged_out c t;
  tracking = tracking c t;
  rest = rests c;
  waits = drop (takes c) (due c t);
}

abbrev pub supply_from : Configuration → List Entry → (ℕ → LineText) → ℕ → Supply
supply_from first t reports u = record { device = device first t u; rest = if connected u t then reports u else Text [] }

abbrev pub content_from : Configuration → List Entry → (ℕ → LineText) → (ℕ → ℕ) → (ℕ → LineText) → Content
content_from first t rests takes reports = record {
  configuration = configuration first t;
  numbers = numbers first t;
  clock = clock t;
  opened = opened t;
  given = given t;
  sessions = map (session_from first t rests takes) (open_numbers t);
  supplies = map (supply_from first t reports) (ups_numbers first t);
}

abbrev pub rests_of : List Event → ℕ → LineText
rests_of h c = rest (input c h)

abbrev pub takes_of : List Event → ℕ → ℕ
takes_of h c = taken c h

abbrev pub reports_of : List Event → ℕ → LineText
reports_of h u = rest (driver_input u h)

-- What the machine knows when it answers a line is what the history says.
pub scene_is : (first : Configuration) (h : List Event) → scene_of (content first h) ≡ scene first (past first h)
scene_is first h = grind (arith, map-twice)

pub eqb_turn : (a b : ℕ) → eqb a b ≡ false → eqb b a ≡ false
eqb_turn a b differ = ne_eqb b a (λ e. eqb-false a b differ (sym e))

-- ---- one session changes

-- The sessions after that of c stay as they are.
same-map : (c : ℕ) (f g : ℕ → Session) (ns : List ℕ) → IsBelow c ns → ((d : ℕ) → eqb d c ≡ false → g d ≡ f d) → map g ns ≡ map f ns
same-map c f g [] below other = refl
same-map c f g (n ∷ ns) below other = rw (other n (ne_eqb n c (λ e. omega (arith, below.0))), same-map c f g ns below.1 other) refl

update-map : (c : ℕ) (f g : ℕ → Session) (change : Session → Session) (ns : List ℕ) → IsRising ns → ((d : ℕ) → (f d).number ≡ d)
    → ((d : ℕ) → eqb d c ≡ false → g d ≡ f d) → g c ≡ change (f c) → map g ns ≡ update c change (map f ns)
update-map c f g change [] rising numbered other this = refl
update-map c f g change (n ∷ ns) rising numbered other this =
    elim (cases_Bool (eqb n c)) [
      | inl is ↦
          let e : n ≡ c = eqb-true n c is in
          let below : IsBelow c ns = let P : ℕ → Type 0 = λ m. IsBelow m ns in subst P e rising.0 in
          let test : eqb (f n).number c ≡ true = ap (λ m. eqb m c) (numbered n) ∙ is in
          let changed : g n ≡ change (f n) = ap g e ∙ this ∙ ap (λ m. change (f m)) (sym e) in
          rw (test, same-map c f g ns below other, changed) refl
      | inr not' ↦
          let test : eqb (f n).number c ≡ false = ap (λ m. eqb m c) (numbered n) ∙ not' in
          rw (test, other n not', update-map c f g change ns rising.1 numbered other this) refl
    ]

-- only the unfinished line of c changes
pub rest-law : (first : Configuration) (t : List Entry) (c : ℕ) (rests rests' : ℕ → LineText) (takes : ℕ → ℕ) (reports : ℕ → LineText) (change : Session → Session)
    → ((d : ℕ) → eqb d c ≡ false → rests' d ≡ rests d)
    → change (session_from first t rests takes c) ≡ with_rest (rests' c) (session_from first t rests takes c)
    → content_from first t rests' takes reports ≡ with_sessions (update c change (content_from first t rests takes reports).sessions) (content_from first t rests takes reports)
rest-law first t c rests rests' takes reports change same at' = grind (arith, update-map, open_numbers_rise)

took-law : (first : Configuration) (t : List Entry) (c n : ℕ) (rests : ℕ → LineText) (takes takes' : ℕ → ℕ) (reports : ℕ → LineText)
    → ((d : ℕ) → eqb d c ≡ false → takes' d ≡ takes d) → takes' c ≡ takes c + n
    → content_from first t rests takes' reports
    ≡ with_sessions (update c (λ k. record k { waits = drop n k.waits }) (content_from first t rests takes reports).sessions) (content_from first t rests takes reports)
took-law first t c n rests takes takes' reports same more = grind (arith, update-map, open_numbers_rise, drop-drop)

pub law-took : (first : Configuration) (h : List Event) (c n : ℕ) → content first (Took c n ∷ h) ≡ advance (content first h) (Took c n)
law-took first h c n = took-law first (past first h) c n (rests_of h) (takes_of h) (takes_of (Took c n ∷ h)) (reports_of h)
    (λ d differ. rw (eqb_turn d c differ) refl) (rw (eq-eqb c c refl) refl)

-- a connection is closed
map-without : (f : ℕ → Session) (c : ℕ) (ns : List ℕ) → ((d : ℕ) → (f d).number ≡ d) → map f (filter (λ d. not (d == c)) ns) ≡ without c (map f ns)
map-without f c [] numbered = refl
map-without f c (n ∷ ns) numbered =
    let test : eqb (f n).number c ≡ eqb n c = ap (λ m. eqb m c) (numbered n) in
    elim (cases_Bool (eqb n c)) [
      | inl e ↦ let t' : eqb (f n).number c ≡ true = test ∙ e in rw (e, t') (map-without f c ns numbered)
      | inr e ↦ let t' : eqb (f n).number c ≡ false = test ∙ e in rw (e, t') (ap (λ ks. f n ∷ ks) (map-without f c ns numbered))
    ]

pub law-close : (first : Configuration) (h : List Event) (c : ℕ) → content first (Close c ∷ h) ≡ advance (content first h) (Close c)
law-close first h c = ap (λ sessions. with_sessions sessions (content first h)) (map-without (session first h) c (open_numbers (past first h)) (λ d. refl))

-- ---- a line of c is answered

-- It changes no other session.
session_other : (first : Configuration) (t : List Entry) (c : ℕ) (line : LineText) (reply : Answer) (asks : ℕ → Option (List ℕ)) (rests rests' : ℕ → LineText) (takes : ℕ → ℕ) (d : ℕ)
    → eqb d c ≡ false → rests' d ≡ rests d
    → session_from first (record { step = Said c line; answer = reply; asks = asks; fate = λ u. Kept; closes = λ d. false } ∷ t) rests' takes d ≡ session_from first t rests takes d
session_other first t c line reply asks rests rests' takes d differ same = rw (eqb_turn d c differ, same) refl

session_self : (first : Configuration) (t : List Entry) (c : ℕ) (line : LineText) (reply : Answer) (asks : ℕ → Option (List ℕ)) (rests rests' : ℕ → LineText) (takes : ℕ → ℕ)
    → takes c ≤ length (due c t)
    → session_from first (record { step = Said c line; answer = reply; asks = asks; fate = λ u. Kept; closes = λ d. false } ∷ t) rests' takes c
    ≡ with_rest (rests' c) (answered (numbering first t) (command_of line) reply (session_from first t rests takes c))
session_self first t c line reply asks rests rests' takes covered = grind (arith, eq-eqb, drop-append-le)

pub said_sessions : (first : Configuration) (t : List Entry) (c : ℕ) (line : LineText) (reply : Answer) (asks : ℕ → Option (List ℕ)) (rests rests' : ℕ → LineText) (takes : ℕ → ℕ)
    → takes c ≤ length (due c t) → ((d : ℕ) → eqb d c ≡ false → rests' d ≡ rests d) → rests' c ≡ Text []
    → map (session_from first (record { step = Said c line; answer = reply; asks = asks; fate = λ u. Kept; closes = λ d. false } ∷ t) rests' takes) (open_numbers t)
    ≡ update c (λ k. with_rest (Text []) (answered (numbering first t) (command_of line) reply k)) (map (session_from first t rests takes) (open_numbers t))
said_sessions first t c line reply asks rests rests' takes covered same ended =
    update-map c (session_from first t rests takes) (session_from first (record { step = Said c line; answer = reply; asks = asks; fate = λ u. Kept; closes = λ d. false } ∷ t) rests' takes)
    (λ k. with_rest (Text []) (answered (numbering first t) (command_of line) reply k)) (open_numbers t) (open_numbers_rise t) (λ d. refl)
    (λ d differ. session_other first t c line reply asks rests rests' takes d differ (same d differ))
    (session_self first t c line reply asks rests rests' takes covered
    ∙ ap (λ r. with_rest r (answered (numbering first t) (command_of line) reply (session_from first t rests takes c))) ended)

-- The driver took no more than was due to it.
abbrev pub IsDriverCovered : List Entry → ℕ → Type 0
IsDriverCovered t u = driver_taken u t ≤ length (driver_due u t)

waits-asked : (is : Bool) (m : ℕ) (due : List ℕ) (request : Option (List ℕ)) → m ≤ length due
    → (if is then drop m (with_request request due) else []) ≡ (if is then with_request request (if is then drop m due else []) else (if is then drop m due else []))
waits-asked is m due request covered = grind (arith, drop-append-le)

-- a UPS after a line that acts on it
abbrev supply_said : Configuration → List Entry → Command → Answer → Option ℕ → (ℕ → LineText) → ℕ → Supply
supply_said first t command reply goal reports u = record {
  device = record (device first t u) {
    forced = at_target u goal (forced_then command reply) (forced first u t);
    tracked = at_target u goal (with_tracked (number_in reply)) (tracked first u t);
    waits = if connected u t then drop (driver_taken u t) (with_request (at_target u goal (λ none. request_of command reply) None) (driver_due u t)) else [];
  };
  rest = if connected u t then reports u else Text [];
}

-- The line changes that UPS, and no other.
supplies_said : (first : Configuration) (t : List Entry) (command : Command) (reply : Answer) (goal : Option ℕ) (reports : ℕ → LineText) → ((u : ℕ) → IsDriverCovered t u)
    → map (supply_said first t command reply goal reports) (ups_numbers first t) ≡ act_on goal (acted command reply) (map (supply_from first t reports) (ups_numbers first t))
supplies_said first t command reply goal reports covered = grind (arith, update-below, eqb_turn, eq-eqb, waits-asked)

-- the past after a line of c with this answer
abbrev pub answered_past : Configuration → List Entry → ℕ → LineText → Answer → List Entry
answered_past first t c line reply = record {
  step = Said c line;
  answer = reply;
  asks = λ u. at_target u (target (numbering first t) (command_of line)) (λ none. request_of (command_of line) reply) None;
  fate = λ u. Kept;
  closes = λ d. false;
} ∷ t

pub said_supplies : (first : Configuration) (t : List Entry) (c : ℕ) (line : LineText) (reply : Answer) (reports : ℕ → LineText) → ((u : ℕ) → IsDriverCovered t u)
    → map (supply_from first (answered_past first t c line reply) reports) (ups_numbers first t)
    ≡ act_on (target (numbering first t) (command_of line)) (acted (command_of line) reply) (map (supply_from first t reports) (ups_numbers first t))
said_supplies first t c line reply reports covered = supplies_said first t (command_of line) reply (target (numbering first t) (command_of line)) reports covered

-- ---- drivers

pub law-driver_up : (first : Configuration) (h : List Event) (u : ℕ) → content first (DriverUp u ∷ h) ≡ advance (content first h) (DriverUp u)
law-driver_up first h u = grind (arith, update-below, eqb_turn, eq-eqb)

pub law-driver_down : (first : Configuration) (h : List Event) (u : ℕ) → content first (DriverDown u ∷ h) ≡ advance (content first h) (DriverDown u)
law-driver_down first h u = grind (arith, update-below, eqb_turn, eq-eqb)

waits-drained : (is : Bool) (m n : ℕ) (due : List ℕ) → (if is then drop (m + n) due else []) ≡ drop n (if is then drop m due else [])
waits-drained is m n due = grind (arith, drop-drop, drop-nil)

pub law-driver_took : (first : Configuration) (h : List Event) (u n : ℕ) → content first (DriverTook u n ∷ h) ≡ advance (content first h) (DriverTook u n)
law-driver_took first h u n = grind (arith, update-below, eqb_turn, eq-eqb, waits-drained)

-- A driver that needs PING is connected.
pinged_up : (age time : ℕ) (d : Device) → needs_ping age time d ≡ true → d.connected ≡ true
pinged_up age time d needed = grind (arith, cases_Bool)

-- a UPS at this moment, if its driver needs PING and if it doesn't
abbrev supply_ticked : Configuration → List Entry → ℕ → (ℕ → LineText) → ℕ → Bool → Supply
supply_ticked first t time reports u needed = record {
  device = record (device first t u) {
    pinged_at = option_map_or (λ line. Some time) (if needed then Some (ask_line Ping) else None) (pinged_at u t);
    waits = if connected u t then drop (driver_taken u t) (with_request (if needed then Some (ask_line Ping) else None) (driver_due u t)) else [];
  };
  rest = if connected u t then reports u else Text [];
}

ticks : (first : Configuration) (t : List Entry) (time : ℕ) (reports : ℕ → LineText) (u : ℕ) (needed : Bool) → IsDriverCovered t u → (needed ≡ true → connected u t ≡ true)
    → supply_ticked first t time reports u needed
    ≡ (if needed then record { device = record (device first t u) { pinged_at = Some time; waits = driver_waits u t ++ ask_line Ping }; rest = if connected u t then reports u else Text [] } else supply_from first t reports u)
ticks first t time reports u needed covered is = grind (arith, drop-append-le)

-- A moment: each driver that needs PING is sent it.
pub law-moment : (first : Configuration) (h : List Event) (t : ℕ) → ((u : ℕ) → IsDriverCovered (past first h) u) → content first (Moment t ∷ h) ≡ advance (content first h) (Moment t)
law-moment first h t covered =
    let p = past first h in
    let s = content first h in
    let age = (configuration first p).max_age in
    let time = max (clock p) t in
    ap (λ supplies. record s { clock = time; supplies = supplies })
    (map-same (λ u. ticked age time (supply first h u)) (supply first (Moment t ∷ h)) (ups_numbers first p)
    (λ u. ticks first p time (reports_of h) u (needs_ping age time (device first p u)) (covered u) (pinged_up age time (device first p u)))
    ∙ sym (map-twice (supply first h) (ticked age time) (ups_numbers first p)))

-- a line of a driver
pub reported_self : (first : Configuration) (t : List Entry) (u : ℕ) (line : LineText) (reply : Answer) (asks : ℕ → Option (List ℕ)) (reports reports' : ℕ → LineText)
    → asks u ≡ None → reports' u ≡ Text [] → connected u t ≡ true
    → supply_from first (record { step = Reported u line; answer = reply; asks = asks; fate = λ u. Kept; closes = λ d. false } ∷ t) reports' u ≡ reported_by (clock t) line (supply_from first t reports u)
reported_self first t u line reply asks reports reports' none ended is = grind (arith, eq-eqb)
