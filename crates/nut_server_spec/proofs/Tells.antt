-- What a server holds after an event and its answer is the content of the history after it.
use Rattle.std.proofs.Common.{◌≡◌, ℕ, zero, suc, ◌≤◌, false, eqb, ltb, List, [], ◌∷◌, length, refl, sym, ◌∙◌, ap, arith, inl, inr, Option, Some, None, subst, Bool}
use Rattle.std.specs.Prelude.{Result, Ok, Err, IsTrue, option_map, slice_get}
use Rattle.std.specs.Option.{option_map_or}
use Rattle.nut_words.specs.Lines.{LineText, lines_after, Text}
use Rattle.std.proofs.lemmas.Bool.{cases_Bool, ltb-false, le-ltb}
use Rattle.nut_words.specs.declared.limits.TheConstants.{PIECE_MAX}
use Rattle.nut_server_spec.specs.declared.Place.{Place}
use Rattle.nut_server_spec.specs.declared.Place.TheVariants.{Line, Report, NewUpses}
use Rattle.nut_server_spec.specs.declared.Refused.{Refused}
use Rattle.nut_server_spec.specs.declared.Refused.TheVariants.{Memory}
use Rattle.nut_server_spec.specs.Configuration.{Configuration}
use Rattle.nut_server_spec.specs.Event.{Event, Bytes, Close, DriverBytes, DriverDown}
use Rattle.nut_server_spec.specs.Content.{Session, Supply, Content, content, supply, past}
use Rattle.nut_server_spec.specs.Acceptance.{refusal, IsAccepted, Tells, front, session_of, supply_of, bytes_refusal, close_refusal, report_refusal, down_refusal}
use Rattle.nut_server_spec.specs.machine.Machine.{advance, bytes_reported, with_supplies}
use Rattle.nut_server_spec.specs.Outcome.{IsAnswer, IsRefusal, MayLack, MayRunOut, MayRunOutOf, after, after_refusal, after_lack, line_takes, text_takes}
use Rattle.nut_server_spec.specs.machine.MachineOutcome.{Answers, Refuses, Lacks, RunsOut, RunsOutOf, supply_after, content_after, content_after_refusal, content_after_lack, content_lost, content_lost_report, unfinished_of, lost, lost_report}
use Rattle.nut_server_spec.proofs.Kept.{keeps-content}
use Rattle.nut_server_spec.proofs.Places.{update_at-none, below-length}
use Rattle.nut_server_spec.proofs.Sessions.{bytes_heard-open, IsOpen}
use Rattle.nut_server_spec.proofs.Supplies.{supply_of-update, bytes_reported-connected}
use Rattle.nut_server_spec.specs.Trace.{places, ups_numbers}
use Rattle.std.proofs.lemmas.List.{length-map}

-- one accepted event more
step-here : (first : Configuration) (h : List Event) (e : Event) → IsAccepted first h → refusal (content first h) e ≡ None → Tells first (e ∷ h) (advance (content first h) e)
step-here first h e accepted more = ((accepted, more), sym (keeps-content first h e (accepted, more)))

pub tells-step : (first : Configuration) (h : List Event) (s : Content) (e : Event) → Tells first h s → refusal s e ≡ None → Tells first (e ∷ h) (advance s e)
tells-step first h s e told = grind (arith, step-here)

pub front_short : (k : ℕ) (piece : List ℕ) → length (front k piece) ≤ length piece
front_short zero piece = omega arith
front_short (suc k) [] = omega arith
front_short (suc k) (b ∷ piece) =
    elim (cases_Bool (eqb b 10)) [
      | inl e ↦ rw e (omega (arith, front_short k piece))
      | inr e ↦ rw e (omega (arith, front_short (suc k) piece))
    ]

-- The front of a piece that isn't too long isn't too long.
front_fits : (k : ℕ) (piece : List ℕ) → ltb PIECE_MAX (length piece) ≡ false → ltb PIECE_MAX (length (front k piece)) ≡ false
front_fits k piece fits = le-ltb PIECE_MAX (length (front k piece)) (omega (arith, front_short k piece, ltb-false PIECE_MAX (length piece) fits))

-- ---- a piece of a connection

shorter : (k : ℕ) (piece : List ℕ) (o : Option Session) → bytes_refusal piece o ≡ None → bytes_refusal (front k piece) o ≡ None
shorter k piece o accepted = grind (arith, cases_Bool, ltb, front_fits)

-- If a piece of a connection is accepted, the connection is open, and an open connection can be closed.
pub bytes_open : (piece : List ℕ) (o : Option Session) → bytes_refusal piece o ≡ None → (k : Session) × (o ≡ Some k)
bytes_open piece o accepted = grind arith

closes : (s : Content) (c : ℕ) → IsOpen c s → refusal s (Close c) ≡ None
closes s c is = ap close_refusal is.1

-- The content after memory ran out in a piece: the lines that were done, and then the connection is closed.
pub tells-lost : (first : Configuration) (h : List Event) (s : Content) (c : ℕ) (piece : List ℕ) (k : ℕ) → Tells first h s → refusal s (Bytes c piece) ≡ None
    → Tells first (lost c piece k h) (content_lost c piece k s)
tells-lost first h s c piece zero told accepted = tells-step first h s (Close c) told (closes s c (bytes_open piece (session_of c s.sessions) accepted))
tells-lost first h s c piece (suc k) told accepted =
    let part = front (suc k) piece in
    let mid : Tells first (Bytes c part ∷ h) (advance s (Bytes c part)) = tells-step first h s (Bytes c part) told (shorter (suc k) piece (session_of c s.sessions) accepted) in
    tells-step first (Bytes c part ∷ h) (advance s (Bytes c part)) (Close c) mid
    (closes (advance s (Bytes c part)) c (bytes_heard-open c part s (bytes_open piece (session_of c s.sessions) accepted)))

-- ---- a piece of a driver

shorter_report : (k : ℕ) (piece : List ℕ) (o : Option Supply) → report_refusal piece o ≡ None → report_refusal (front k piece) o ≡ None
shorter_report k piece o accepted = grind (arith, cases_Bool, ltb, front_fits)

-- If a piece of a driver is accepted, the driver can be disconnected, also after a change that leaves it connected.
down_now : (piece : List ℕ) (change : Supply → Supply) (o : Option Supply) → ((d : Supply) → (change d).device.connected ≡ d.device.connected) → report_refusal piece o ≡ None
    → down_refusal (option_map change o) ≡ None
down_now piece change o keeps accepted = grind (arith, cases_Bool)

downs : (s : Content) (u : ℕ) (part piece : List ℕ) → report_refusal piece (supply_of u s.supplies) ≡ None → refusal (advance s (DriverBytes u part)) (DriverDown u) ≡ None
downs s u part piece accepted = grind (arith, supply_of-update, down_now, bytes_reported-connected)

-- No bytes change nothing.
no_report : (s : Content) (u : ℕ) → advance s (DriverBytes u []) ≡ s
no_report s u = ap (λ supplies. with_supplies supplies s) (update_at-none u (bytes_reported s.clock []) s.supplies (λ d. refl))

-- The content after memory ran out in a piece: the lines that were done, and then the driver is disconnected.
pub tells-lost_report : (first : Configuration) (h : List Event) (s : Content) (u : ℕ) (piece : List ℕ) (k : ℕ) → Tells first h s → refusal s (DriverBytes u piece) ≡ None
    → Tells first (lost_report u piece k h) (content_lost_report u piece k s)
tells-lost_report first h s u piece zero told accepted =
    let P : Content → Type 0 = λ x. refusal x (DriverDown u) ≡ None in
    let Q : Content → Type 0 = λ x. Tells first (DriverDown u ∷ h) (advance x (DriverDown u)) in
    subst Q (sym (no_report s u)) (tells-step first h s (DriverDown u) told (subst P (no_report s u) (downs s u [] piece accepted)))
tells-lost_report first h s u piece (suc k) told accepted =
    let part = front (suc k) piece in
    let mid : Tells first (DriverBytes u part ∷ h) (advance s (DriverBytes u part)) =
    tells-step first h s (DriverBytes u part) told (shorter_report (suc k) piece (supply_of u s.supplies) accepted) in
    tells-step first (DriverBytes u part ∷ h) (advance s (DriverBytes u part)) (DriverDown u) mid (downs s u part piece accepted)

-- ---- all answers

lack : (first : Configuration) (h : List Event) (s : Content) (e : Event) (place : Place) → Tells first h s → refusal s e ≡ None → Lacks s place e
    → Tells first (after_lack place e h) (content_after_lack place e s)
lack first h s (Bytes d piece) (Line c k) told accepted may = tells-lost first h s d piece k told accepted
lack first h s (DriverBytes v piece) (Report u k) told accepted may = tells-lost_report first h s v piece k told accepted
lack first h s e NewUpses told accepted may = told
lack first h s e place told accepted may = absurd may

refused : (first : Configuration) (h : List Event) (s : Content) (e : Event) (r : Refused) → Tells first h s → Refuses s e r
    → Tells first (after_refusal r e h) (content_after_refusal r e s)
refused first h s e (Memory place) told is = lack first h s e place told is.0 is.1
refused first h s e r told is = told

-- What a server holds after any answer that it may give is the content of the history after it.
pub tells-after : {U : Type 0} (first : Configuration) (h : List Event) (s : Content) (e : Event) (r : Result U Refused) → Tells first h s → Answers s e r
    → Tells first (after r e h) (content_after r s e)
tells-after first h s e (Ok u) told is = tells-step first h s e told is
tells-after first h s e (Err r) told is = refused first h s e r told is

-- ---- the machine's answers are those that histories allow

-- The line with the number k may take memory, behind a history of the content x, where the lines before it lead to y.
abbrev LineTakes : ℕ → List ℕ → ℕ → Content → Content → Type 0
LineTakes c piece k x y =
    let lines : List LineText = lines_after (unfinished_of (session_of c x.sessions)) piece in
    IsTrue (option_map_or (λ line. line_takes line (session_of c y.sessions)) (slice_get lines k) false)

runs_out : (first : Configuration) (h : List Event) (s : Content) (c : ℕ) (piece : List ℕ) (k : ℕ) → Tells first h s → refusal s (Bytes c piece) ≡ None
    → RunsOut c piece k s → MayRunOut first h c piece k
runs_out first h s c piece zero told accepted may = subst (λ x. LineTakes c piece zero x x) told.1 may
runs_out first h s c piece (suc k) told accepted may =
    let part = front (suc k) piece in
    let mid : Tells first (Bytes c part ∷ h) (advance s (Bytes c part)) = tells-step first h s (Bytes c part) told (shorter (suc k) piece (session_of c s.sessions) accepted) in
    subst (λ x. LineTakes c piece (suc k) x (content first (Bytes c part ∷ h))) told.1
    (subst (λ y. LineTakes c piece (suc k) s y) mid.1 may)

-- the same of a driver's line, and of its UPS before and behind the lines before it
abbrev ReportTakes : List ℕ → ℕ → Option Supply → Option Supply → Type 0
ReportTakes piece k before behind =
    let lines : List LineText = lines_after (option_map_or (λ d. d.rest) before (Text [])) piece in
    let takes : LineText → Bool = λ line. option_map_or (λ d. text_takes line d.device.table) behind false in
    IsTrue (option_map_or takes (slice_get lines k) false)

-- no line changes nothing
supply_first : (time : ℕ) (piece : List ℕ) (o : Option Supply) → supply_after time piece zero o ≡ o
supply_first time piece o = grind arith

supply_later : (time : ℕ) (piece : List ℕ) (k : ℕ) (o : Option Supply) → supply_after time piece k o ≡ option_map (bytes_reported time (front k piece)) o
supply_later time piece k o = grind arith

runs_out_of : (first : Configuration) (h : List Event) (s : Content) (u : ℕ) (piece : List ℕ) (k : ℕ) → Tells first h s → refusal s (DriverBytes u piece) ≡ None
    → RunsOutOf s.clock piece k (supply_of u s.supplies) → MayRunOutOf first h u piece k
runs_out_of first h s u piece zero told accepted may =
    subst (λ x. ReportTakes piece zero (supply_of u x.supplies) (supply_of u x.supplies)) told.1
    (subst (λ o. ReportTakes piece zero (supply_of u s.supplies) o) (supply_first s.clock piece (supply_of u s.supplies)) may)
runs_out_of first h s u piece (suc k) told accepted may =
    let part = front (suc k) piece in
    let mid : Tells first (DriverBytes u part ∷ h) (advance s (DriverBytes u part)) =
    tells-step first h s (DriverBytes u part) told (shorter_report (suc k) piece (supply_of u s.supplies) accepted) in
    let later : supply_after s.clock piece (suc k) (supply_of u s.supplies) ≡ supply_of u (content first (DriverBytes u part ∷ h)).supplies =
    supply_later s.clock piece (suc k) (supply_of u s.supplies)
    ∙ sym (supply_of-update u (bytes_reported s.clock part) s.supplies)
    ∙ ap (λ x. supply_of u x.supplies) mid.1 in
    subst (λ x. ReportTakes piece (suc k) (supply_of u x.supplies) (supply_of u (content first (DriverBytes u part ∷ h)).supplies)) told.1
    (subst (λ o. ReportTakes piece (suc k) (supply_of u s.supplies) o) later may)

-- there are as many UPSes as there are numbers for them
supplies_are : (first : Configuration) (h : List Event) → length (content first h).supplies ≡ places first (past first h)
supplies_are first h = length-map (ups_numbers first (past first h)) (supply first h) ∙ below-length (places first (past first h))

lacks : (first : Configuration) (h : List Event) (s : Content) (e : Event) (place : Place) → Tells first h s → refusal s e ≡ None → Lacks s place e → MayLack first h place e
lacks first h s e place told accepted may = grind (arith, runs_out, runs_out_of, supplies_are)

refuses : (first : Configuration) (h : List Event) (s : Content) (e : Event) (r : Refused) → Tells first h s → Refuses s e r → IsRefusal first h e r
refuses first h s e r told is = grind (arith, lacks)

-- What the machine answers is what a server may answer that was told the history.
pub answers-told : {U : Type 0} (first : Configuration) (h : List Event) (s : Content) (e : Event) (r : Result U Refused) → Tells first h s → Answers s e r → IsAnswer first h e r
answers-told first h s e r told is = grind (arith, refuses)
