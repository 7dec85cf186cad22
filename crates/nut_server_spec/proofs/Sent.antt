-- What a connection was sent, and what waits for it, after each event.
use Rattle.std.proofs.Common.{arith}
use Rattle.std.proofs.Common.{◌≡◌, ℕ, false, eqb, List, [], ◌∷◌, ◌++◌, take, refl, sym, ◌∙◌, ap, inl, inr, append_assoc, append-nil, Option, Some, None, subst}
use Rattle.std.specs.Prelude.{◌==◌, if◌then◌else◌}
use Rattle.std.proofs.lemmas.Bool.{cases_Bool, eqb-true, eq-eqb}
use Rattle.std.proofs.lemmas.List.{take-append-le, take-append-drop}
use Rattle.std.proofs.Math.Seq.{take-add}
use Rattle.nut_words.specs.Lines.{LineText}
use Rattle.nut_words.specs.Quoting.{Begins}
use Rattle.nut_server_spec.specs.declared.Refused.{Refused}
use Rattle.nut_server_spec.specs.Configuration.{Configuration}
use Rattle.nut_server_spec.specs.Event.{Event, Bytes, Took, DriverBytes, Step, Said, input, taken, driver_input, steps, with_lines, brought}
use Rattle.nut_server_spec.specs.Answer.{text_of}
use Rattle.nut_server_spec.specs.Trace.{due, trace, answer_to}
use Rattle.nut_server_spec.specs.Content.{Session, Content, past, content, sent, waits}
use Rattle.nut_server_spec.specs.Acceptance.{refusal, IsAccepted, Tells, session_of, took_refusal, waiting_in, waiting_of}
use Rattle.nut_server_spec.specs.Outcome.{after_refusal}
use Rattle.nut_server_spec.specs.laws.Laws.{received, SentIsReceived, SentAndWaitingIsDue, SentIsFrontOfDue}
use Rattle.nut_server_spec.proofs.Pieces.{IsCovered}
use Rattle.nut_server_spec.proofs.Kept.{session_is, all_covered, due_reports}
use Rattle.nut_server_spec.specs.machine.MachineOutcome.{lost, lost_report}

-- how many bytes c takes in an event
abbrev pub taken_by : ℕ → Event → ℕ
taken_by c (Took d n) = if d == c then n else 0
taken_by c e = 0

-- The answers due grow at the end.
due_begins : (first : Configuration) (c d : ℕ) (ls : List LineText) (s : List Step) → Begins (due d (trace first s)) (due d (trace first (with_lines c ls s)))
due_begins first c d [] s = ([], sym (append-nil (due d (trace first s))))
due_begins first c d (l ∷ ls) s =
    let later = due_begins first c d ls (Said c l ∷ s) in
    let text = text_of (answer_to first (trace first s) c l) in
    elim (cases_Bool (eqb c d)) [
      | inl e ↦
          let one : due d (trace first (Said c l ∷ s)) ≡ due d (trace first s) ++ text = rw e refl in
          (text ++ later.0, later.1 ∙ ap (λ x. x ++ later.0) one ∙ append_assoc (due d (trace first s)) text later.0)
      | inr e ↦
          let one : due d (trace first (Said c l ∷ s)) ≡ due d (trace first s) = rw e refl in
          (later.0, later.1 ∙ ap (λ x. x ++ later.0) one)
    ]

pub sent-bytes : (first : Configuration) (h : List Event) (c d : ℕ) (piece : List ℕ) → IsCovered first h d → sent first d (Bytes c piece ∷ h) ≡ sent first d h
sent-bytes first h c d piece covered =
    let more = due_begins first c d (brought (input c h) piece) (steps h) in
    ap (take (taken d h)) more.1 ∙ take-append-le (taken d h) (due d (past first h)) more.0 covered

-- A driver's line adds nothing to what a client was sent.
pub sent-reports : (first : Configuration) (h : List Event) (u c : ℕ) (piece : List ℕ) → sent first c (DriverBytes u piece ∷ h) ≡ sent first c h
sent-reports first h u c piece = ap (take (taken c h)) (due_reports first c u (brought (driver_input u h) piece) (steps h))

pub sent-took : (first : Configuration) (h : List Event) (c n : ℕ) → sent first c (Took c n ∷ h) ≡ sent first c h ++ take n (waits first c h)
sent-took first h c n = grind (arith, take-add, eq-eqb)

pub sent-took_other : (first : Configuration) (h : List Event) (c d n : ℕ) → eqb d c ≡ false → sent first c (Took d n ∷ h) ≡ sent first c h
sent-took_other first h c d n differ = rw differ refl

-- An accepted event adds what c takes to what it was sent.
pub sent-step : (first : Configuration) (h : List Event) (c : ℕ) (e : Event) → IsAccepted first h → sent first c (e ∷ h) ≡ sent first c h ++ take (taken_by c e) (waits first c h)
sent-step first h c e accepted = grind (arith, sent-bytes, all_covered, append-nil, cases_Bool, take-add, sent-reports)

-- An event in which c takes nothing changes nothing of what it was sent.
pub sent-other : (first : Configuration) (h : List Event) (c : ℕ) (e : Event) → IsAccepted first h → taken_by c e ≡ 0 → sent first c (e ∷ h) ≡ sent first c h
sent-other first h c e accepted nothing = sent-step first h c e accepted ∙ ap (λ n. sent first c h ++ take n (waits first c h)) nothing ∙ append-nil (sent first c h)

-- Nor does a lack of memory in a piece.
pub sent-lost : (first : Configuration) (h : List Event) (c d : ℕ) (piece : List ℕ) (k : ℕ) → IsAccepted first h → sent first d (lost c piece k h) ≡ sent first d h
sent-lost first h c d piece k accepted = grind (arith, sent-bytes, all_covered)

pub sent-lost_report : (first : Configuration) (h : List Event) (u d : ℕ) (piece : List ℕ) (k : ℕ) → sent first d (lost_report u piece k h) ≡ sent first d h
sent-lost_report first h u d piece k = grind (arith, sent-reports)

-- Nor does any other refusal.
pub sent-refused : (first : Configuration) (h : List Event) (d : ℕ) (r : Refused) (e : Event) → IsAccepted first h → sent first d (after_refusal r e h) ≡ sent first d h
sent-refused first h d r e accepted = grind (arith, sent-lost, sent-lost_report)

-- What the content says waits for an open connection is what the history says.
pub waiting_is : (first : Configuration) (h : List Event) (c : ℕ) (k : Session) → session_of c (content first h).sessions ≡ Some k → waiting_of c (content first h).sessions ≡ waits first c h
waiting_is first h c k found = ap waiting_in found ∙ ap (λ k. k.waits) (session_is first h c k found)

pub waiting_is_told : (first : Configuration) (h : List Event) (s : Content) (c : ℕ) (k : Session) → Tells first h s → session_of c s.sessions ≡ Some k → waiting_of c s.sessions ≡ waits first c h
waiting_is_told first h s c k told found = grind (arith, waiting_is)

-- If a connection may take bytes, it is open.
pub open_took : (n : ℕ) (o : Option Session) → took_refusal n o ≡ None → (k : Session) × (o ≡ Some k)
open_took n o accepted = grind arith

pub sent-took_told : (first : Configuration) (h : List Event) (s : Content) (c n : ℕ) → Tells first h s → refusal s (Took c n) ≡ None
    → sent first c (Took c n ∷ h) ≡ sent first c h ++ take n (waiting_of c s.sessions)
sent-took_told first h s c n told accepted = grind (arith, sent-took, waiting_is_told)

pub sent-received : SentIsReceived
sent-received first [] c accepted = refl
sent-received first (Bytes d piece ∷ h) c accepted = sent-bytes first h d c piece (all_covered first h c accepted.0) ∙ sent-received first h c accepted.0
sent-received first (Took d n ∷ h) c accepted =
    elim (cases_Bool (eqb d c)) [
      | inl e ↦
          let found = open_took n (session_of d (content first h).sessions) accepted.1 in
          let P : ℕ → Type 0 = λ x. session_of x (content first h).sessions ≡ Some found.0 in
          let here : session_of c (content first h).sessions ≡ Some found.0 = subst P (eqb-true d c e) found.1 in
          rw e (take-add (taken c h) n (due c (past first h))
          ∙ ap (λ bytes. bytes ++ take n (waits first c h)) (sent-received first h c accepted.0)
          ∙ ap (λ bytes. received first c h ++ take n bytes) (sym (waiting_is first h c found.0 here)))
      | inr e ↦ rw e (sent-received first h c accepted.0)
    ]
sent-received first (DriverBytes u piece ∷ h) c accepted = sent-reports first h u c piece ∙ sent-received first h c accepted.0
sent-received first (e ∷ h) c accepted = sent-received first h c accepted.0

pub sent-waits : (first : Configuration) (h : List Event) (c : ℕ) → sent first c h ++ waits first c h ≡ due c (past first h)
sent-waits first h c = take-append-drop (taken c h) (due c (past first h))

pub sent-waiting-due : SentAndWaitingIsDue
sent-waiting-due first h c k accepted found = ap (λ k. sent first c h ++ k.waits) (session_is first h c k found) ∙ sent-waits first h c

pub sent-front : SentIsFrontOfDue
sent-front first h c accepted = (waits first c h, sym (sent-waits first h c))
