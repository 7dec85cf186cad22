-- What holds after every history of accepted events, and the law of the machine.
use Rattle.std.proofs.Common.{◌≡◌, ℕ, ◌+◌, ◌-◌, ◌<◌, ◌≤◌, Bool, true, false, eqb, ltb, List, [], ◌∷◌, map, drop, length, refl, ◌∙◌, ap, arith, inl, inr, Option, Some, None, length-drop, subst}
use Rattle.std.specs.Prelude.{if◌then◌else◌}
use Rattle.nut_server_spec.proofs.Sessions.{session_of-map}
use Rattle.std.proofs.lemmas.Bool.{ltb-true, cases_Bool, eqb-true, ne_eqb, eq-eqb, ltb-false}
use Rattle.std.proofs.lemmas.List.{map-append}
use Rattle.nut_words.specs.Lines.{LineText}
use Rattle.nut_server_spec.specs.Configuration.{Configuration}
use Rattle.nut_server_spec.specs.Event.{Event, Moment, Open, Bytes, Took, Close, WriteFailed, DriverUp, DriverBytes, DriverTook, DriverDown, Reload, Step, Clock, Said, Reported, input, taken, driver_input, steps, with_lines, with_reports, brought}
use Rattle.nut_server_spec.specs.Trace.{Entry, places, numbering, opened, user, password, login, logged_out, tracking, due, connected, driver_due, driver_taken, ups_numbers, asks_at, trace}
use Rattle.nut_server_spec.specs.Content.{Session, Supply, past, content, session, supply}
use Rattle.nut_server_spec.specs.Acceptance.{refusal, IsAccepted, session_of, supply_of, bytes_refusal, took_refusal, report_refusal, drain_refusal}
use Rattle.nut_server_spec.specs.machine.Machine.{advance, KeepsContent}
use Rattle.nut_server_spec.specs.laws.Laws.{IsUpTo}
use Rattle.nut_server_spec.specs.Numbering.{Fate, fate_of, by_fate}
use Rattle.nut_server_spec.proofs.Numbers.{numbers_up_to}
use Rattle.nut_server_spec.proofs.Reloads.{law-reload}
use Rattle.nut_server_spec.proofs.Places.{found_at, below_counts}
use Rattle.nut_server_spec.proofs.Law.{IsDriverCovered, law-moment, law-close, law-took, law-driver_up, law-driver_took, law-driver_down}
use Rattle.nut_server_spec.proofs.Pieces.{IsCovered, AreDriversCovered, IsThere, law-bytes, law-driver_bytes, covered_bytes, drivers_bytes, request_grows}

-- No session has a number that hasn't been given out.
pub none_above : (c n : ℕ) (f : ℕ → Session) (ns : List ℕ) → ((d : ℕ) → (f d).number ≡ d) → IsUpTo n ns → n < c → session_of c (map f ns) ≡ None
none_above c n f [] numbered up less = refl
none_above c n f (m ∷ ns) numbered up less =
    let test : eqb (f m).number c ≡ false = ap (λ k. eqb k c) (numbered m) ∙ ne_eqb m c (λ e. omega (arith, up.0)) in
    rw test (none_above c n f ns numbered up.1 less)

-- The session that a content has under a number is the one that the history says.
pub session_is : (first : Configuration) (h : List Event) (c : ℕ) (k : Session) → session_of c (content first h).sessions ≡ Some k → k ≡ session first h c
session_is first h c k found = grind (arith, session_of-map)

-- The UPS that a content has under a number is the one that the history says.
pub supply_is : (first : Configuration) (h : List Event) (u : ℕ) (d : Supply) → supply_of u (content first h).supplies ≡ Some d → d ≡ supply first h u
supply_is first h u d found = found_at u u 0 (supply first h) (ups_numbers first (past first h)) d (below_counts (places first (past first h))) (omega arith) found

session_up : (first : Configuration) (h : List Event) (c : ℕ) → (session_of c (content first h).sessions ≡ None → ⊥) → c ≤ opened (past first h)
session_up first h c found = grind (arith, cases_Bool, ltb, none_above, numbers_up_to, ltb-true, ltb-false)

bytes_up : (first : Configuration) (h : List Event) (c : ℕ) (piece : List ℕ) → refusal (content first h) (Bytes c piece) ≡ None → c ≤ opened (past first h)
bytes_up first h c piece accepted = session_up first h c (λ none. let e = ap (bytes_refusal piece) none in cc (e, accepted))

took_up : (first : Configuration) (h : List Event) (c n : ℕ) → refusal (content first h) (Took c n) ≡ None → c ≤ opened (past first h)
took_up first h c n accepted = session_up first h c (λ none. let e = ap (took_refusal n) none in cc (e, accepted))

-- ---- no more was taken than was due

took_covered : (first : Configuration) (h : List Event) (c n : ℕ) (o : Option Session) → IsCovered first h c → session_of c (content first h).sessions ≡ o → took_refusal n o ≡ None
    → taken c h + n ≤ length (due c (past first h))
took_covered first h c n o covered found accepted = grind (arith, session_is, length-drop, cases_Bool, ltb, ltb-false)

-- A driver's line adds nothing to the answers due to a client.
pub due_reports : (first : Configuration) (c u : ℕ) (ls : List LineText) (s : List Step) → due c (trace first (with_reports u ls s)) ≡ due c (trace first s)
due_reports first c u [] s = refl
due_reports first c u (l ∷ ls) s = due_reports first c u ls (Reported u l ∷ s)

pub all_covered : (first : Configuration) (h : List Event) (c : ℕ) → IsAccepted first h → IsCovered first h c
all_covered first [] c accepted = omega arith
all_covered first (Bytes d piece ∷ h) c accepted = covered_bytes first h d c piece (all_covered first h c accepted.0)
all_covered first (Took d n ∷ h) c accepted =
    let before = all_covered first h d accepted.0 in
    elim (cases_Bool (eqb d c)) [
      | inl e ↦
          let P : ℕ → Type 0 = λ x. taken x h + n ≤ length (due x (past first h)) in
          rw e (subst P (eqb-true d c e) (took_covered first h d n (session_of d (content first h).sessions) before refl accepted.1))
      | inr e ↦ rw e (all_covered first h c accepted.0)
    ]
all_covered first (DriverBytes u piece ∷ h) c accepted =
    omega (arith, all_covered first h c accepted.0, ap length (due_reports first c u (brought (driver_input u h) piece) (steps h)))
all_covered first (e ∷ h) c accepted = all_covered first h c accepted.0

-- no more was taken by drivers than was due to them
waits-length : (is : Bool) (m : ℕ) (x : List ℕ) → length (if is then drop m x else []) ≤ length x - m
waits-length is m x = grind (arith, length-drop)

drain_covered : (first : Configuration) (h : List Event) (u n : ℕ) (o : Option Supply) → IsDriverCovered (past first h) u → supply_of u (content first h).supplies ≡ o → drain_refusal n o ≡ None
    → driver_taken u (past first h) + n ≤ length (driver_due u (past first h))
drain_covered first h u n o covered found accepted = grind (arith, supply_is, waits-length, cases_Bool, ltb, ltb-false)

drivers_reports : (first : Configuration) (u : ℕ) (ls : List LineText) (s : List Step) → ((v : ℕ) → IsDriverCovered (trace first s) v) → (v : ℕ) → IsDriverCovered (trace first (with_reports u ls s)) v
drivers_reports first u [] s covered v = covered v
drivers_reports first u (l ∷ ls) s covered v = drivers_reports first u ls (Reported u l ∷ s) covered v

fated_covered : (fate : Fate) (m : ℕ) (due : List ℕ) → m ≤ length due → by_fate fate 0 (λ before. before) m ≤ length (by_fate fate [] (λ before. before) due)
fated_covered fate m due covered = grind arith

pub drivers_covered : (first : Configuration) (h : List Event) → IsAccepted first h → AreDriversCovered first h
drivers_covered first [] accepted v = omega arith
drivers_covered first (Moment t ∷ h) accepted v =
    omega (arith, drivers_covered first h accepted.0 v, request_grows (asks_at first (past first h) (Clock t) v) (driver_due v (past first h)))
drivers_covered first (Bytes c piece ∷ h) accepted v = drivers_bytes first h c piece (drivers_covered first h accepted.0) v
drivers_covered first (DriverUp u ∷ h) accepted v =
    elim (cases_Bool (eqb u v)) [ inl e ↦ rw e (omega arith) | inr e ↦ rw e (drivers_covered first h accepted.0 v) ]
drivers_covered first (DriverBytes u piece ∷ h) accepted v = drivers_reports first u (brought (driver_input u h) piece) (steps h) (drivers_covered first h accepted.0) v
drivers_covered first (DriverTook u n ∷ h) accepted v =
    elim (cases_Bool (eqb u v)) [
      | inl e ↦
          let P : ℕ → Type 0 = λ x. driver_taken x (past first h) + n ≤ length (driver_due x (past first h)) in
          rw e (subst P (eqb-true u v e) (drain_covered first h u n (supply_of u (content first h).supplies) (drivers_covered first h accepted.0 u) refl accepted.1))
      | inr e ↦ rw e (drivers_covered first h accepted.0 v)
    ]
drivers_covered first (Reload k ∷ h) accepted v =
    fated_covered (fate_of k.upses (numbering first (past first h)) v) (driver_taken v (past first h)) (driver_due v (past first h)) (drivers_covered first h accepted.0 v)
drivers_covered first (e ∷ h) accepted v = drivers_covered first h accepted.0 v

-- ---- a connection that hasn't been opened

-- It has said nothing, and no answer is due to it.
abbrev pub IsSilent : Configuration → List Entry → ℕ → Type 0
IsSilent first t c = (user c t ≡ None) × (password c t ≡ None) × (login first c t ≡ None) × (logged_out c t ≡ false) × (tracking c t ≡ false) × (due c t ≡ [])

silent_lines : (first : Configuration) (c d : ℕ) (ls : List LineText) (s : List Step) → eqb d c ≡ false → IsSilent first (trace first s) c → IsSilent first (trace first (with_lines d ls s)) c
silent_lines first c d [] s differ silent = silent
silent_lines first c d (l ∷ ls) s differ silent = silent_lines first c d ls (Said d l ∷ s) differ (rw differ silent)

silent_reports : (first : Configuration) (c u : ℕ) (ls : List LineText) (s : List Step) → IsSilent first (trace first s) c → IsSilent first (trace first (with_reports u ls s)) c
silent_reports first c u [] s silent = silent
silent_reports first c u (l ∷ ls) s silent = silent_reports first c u ls (Reported u l ∷ s) silent

pub opened_lines : (first : Configuration) (d : ℕ) (ls : List LineText) (s : List Step) → opened (trace first (with_lines d ls s)) ≡ opened (trace first s)
opened_lines first d [] s = refl
opened_lines first d (l ∷ ls) s = opened_lines first d ls (Said d l ∷ s)

pub opened_reports : (first : Configuration) (u : ℕ) (ls : List LineText) (s : List Step) → opened (trace first (with_reports u ls s)) ≡ opened (trace first s)
opened_reports first u [] s = refl
opened_reports first u (l ∷ ls) s = opened_reports first u ls (Reported u l ∷ s)

-- Nor has it sent or taken a byte.
abbrev pub IsUnknown : Configuration → List Event → ℕ → Type 0
IsUnknown first h c = IsSilent first (past first h) c × (input c h ≡ []) × (taken c h ≡ 0)

pub unknown : (first : Configuration) (h : List Event) (c : ℕ) → IsAccepted first h → opened (past first h) < c → IsUnknown first h c
unknown first [] c accepted later = ((refl, refl, refl, refl, refl, refl), refl, refl)
unknown first (Bytes d piece ∷ h) c accepted later =
    let earlier : opened (past first h) < c = omega (arith, opened_lines first d (brought (input d h) piece) (steps h)) in
    let before = unknown first h c accepted.0 earlier in
    let differ : eqb d c ≡ false = ne_eqb d c (λ e. omega (arith, earlier, bytes_up first h d piece accepted.1)) in
    (silent_lines first c d (brought (input d h) piece) (steps h) differ before.0, rw differ before.1, before.2)
unknown first (Took d n ∷ h) c accepted later =
    let before = unknown first h c accepted.0 later in
    let differ : eqb d c ≡ false = ne_eqb d c (λ e. omega (arith, later, took_up first h d n accepted.1)) in
    (before.0, before.1, rw differ before.2)
unknown first (DriverBytes u piece ∷ h) c accepted later =
    let before = unknown first h c accepted.0 (omega (arith, opened_reports first u (brought (driver_input u h) piece) (steps h))) in
    (silent_reports first c u (brought (driver_input u h) piece) (steps h) before.0, before.1, before.2)
unknown first (e ∷ h) c accepted later = unknown first h c accepted.0 (omega arith)

map-up_to : (n : ℕ) (f g : ℕ → Session) (ns : List ℕ) → IsUpTo n ns → ((d : ℕ) → d ≤ n → g d ≡ f d) → map g ns ≡ map f ns
map-up_to n f g [] up same = refl
map-up_to n f g (m ∷ ns) up same = rw (same m up.0, map-up_to n f g ns up.1 same) refl

law-open : (first : Configuration) (h : List Event) (a : List ℕ) → IsAccepted first h → content first (Open a ∷ h) ≡ advance (content first h) (Open a)
law-open first h a accepted = grind (arith, unknown, eq-eqb, map-up_to, numbers_up_to, ne_eqb, map-append)

-- ---- the law

-- If the bytes of a connection are accepted, it is open.
is_there : (first : Configuration) (h : List Event) (c : ℕ) (piece : List ℕ) (o : Option Session) → session_of c (content first h).sessions ≡ o → bytes_refusal piece o ≡ None → IsThere first h c
is_there first h c piece o found accepted = grind (arith, session_is)

-- If the bytes of a driver are accepted, it is connected.
is_up : (first : Configuration) (h : List Event) (u : ℕ) (piece : List ℕ) (o : Option Supply) → supply_of u (content first h).supplies ≡ o → report_refusal piece o ≡ None → connected u (past first h) ≡ true
is_up first h u piece o found accepted = grind (arith, cases_Bool, supply_is)

pub keeps-content : KeepsContent
keeps-content first h (Moment t) accepted = law-moment first h t (drivers_covered first h accepted.0)
keeps-content first h (Open a) accepted = law-open first h a accepted.0
keeps-content first h (Bytes c piece) accepted =
    law-bytes first h c piece (all_covered first h c accepted.0) (drivers_covered first h accepted.0) (is_there first h c piece (session_of c (content first h).sessions) refl accepted.1)
keeps-content first h (Took c n) accepted = law-took first h c n
keeps-content first h (Close c) accepted = law-close first h c
keeps-content first h (WriteFailed c) accepted = law-close first h c
keeps-content first h (DriverUp u) accepted = law-driver_up first h u
keeps-content first h (DriverBytes u piece) accepted = law-driver_bytes first h u piece (is_up first h u piece (supply_of u (content first h).supplies) refl accepted.1)
keeps-content first h (DriverTook u n) accepted = law-driver_took first h u n
keeps-content first h (DriverDown u) accepted = law-driver_down first h u
keeps-content first h (Reload k) accepted = law-reload first h k
