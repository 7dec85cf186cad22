-- However bytes are cut, and whatever is taken between the pieces, what follows is the same.
use Rattle.std.proofs.Common.{arith}
use Rattle.std.proofs.Common.{◌≡◌, ℕ, Bool, eqb, List, [], ◌∷◌, ◌++◌, refl, sym, ◌∙◌, ap, append_assoc, append-nil, inl, inr, Option}
use Rattle.std.specs.Prelude.{if◌then◌else◌}
use Rattle.std.proofs.lemmas.Bool.{cases_Bool, eq-eqb}
use Rattle.nut_words.specs.Lines.{LineText}
use Rattle.nut_state.specs.Step.{table_of}
use Rattle.nut_server_spec.specs.Configuration.{Configuration}
use Rattle.nut_server_spec.specs.Event.{Event, Bytes, DriverBytes, Step, Reported, input, driver_input, steps, with_lines, with_reports, brought}
use Rattle.nut_server_spec.specs.Device.{Device}
use Rattle.nut_server_spec.specs.Trace.{Entry, clock, due, connected, reports, reported, is_heard, heard_at, pinged_at, forced, driver_due, trace, tracked}
use Rattle.nut_server_spec.specs.Tracking.{Tracked, told_in, all_ended_by}
use Rattle.nut_server_spec.specs.laws.Laws.{Turn, Piece, Taken, bytes_of, sending, reporting, SameStepsSameAnswers, CutsAndWritesDoNotMatter, DriverCutsAndWritesDoNotMatter}
use Rattle.nut_server_spec.proofs.LineLaws.{brought_none, brought-append}
use Rattle.nut_server_spec.proofs.Cuts.{with_lines-append, with_reports-append}

pub same-steps : SameStepsSameAnswers
same-steps first g h same = ((λ c. ap (λ s. due c (trace first s)) same), (λ u. ap (λ s. driver_due u (trace first s)) same))

-- ---- a connection

input-sending : (c : ℕ) (turns : List Turn) (h : List Event) → input c (sending c turns h) ≡ input c h ++ bytes_of turns
input-sending c [] h = sym (append-nil (input c h))
input-sending c (Piece p ∷ turns) h =
    let g = input c (sending c turns h) in
    ap (λ b. if b then g ++ p else g) (eq-eqb c c refl) ∙ ap (λ x. x ++ p) (input-sending c turns h) ∙ append_assoc (input c h) (bytes_of turns) p
input-sending c (Taken d n ∷ turns) h = input-sending c turns h

steps-sending : (h : List Event) (c : ℕ) (turns : List Turn) → steps (sending c turns h) ≡ steps (Bytes c (bytes_of turns) ∷ h)
steps-sending h c [] = sym (ap (λ ls. with_lines c ls (steps h)) (brought_none (input c h)))
steps-sending h c (Piece p ∷ turns) =
    let a = input c h in
    let bytes = bytes_of turns in
    ap (λ i. with_lines c (brought i p) (steps (sending c turns h))) (input-sending c turns h)
    ∙ ap (with_lines c (brought (a ++ bytes) p)) (steps-sending h c turns)
    ∙ sym (with_lines-append c (brought a bytes) (brought (a ++ bytes) p) (steps h))
    ∙ ap (λ ls. with_lines c ls (steps h)) (sym (brought-append a bytes p))
steps-sending h c (Taken d n ∷ turns) = steps-sending h c turns

pub cuts-and-writes : CutsAndWritesDoNotMatter
cuts-and-writes = grind (arith, steps-sending)

-- ---- a driver

-- what a past says, apart from how much drivers took
record Seen : Type 0 where
  time : ℕ
  there : ℕ → Bool
  told : ℕ → List (List ℕ)
  heard : ℕ → ℕ
  pinged : ℕ → Option ℕ
  forces : ℕ → Bool
  asked : ℕ → List ℕ
  owed : ℕ → List ℕ
  followed : ℕ → List Tracked

abbrev seen : Configuration → List Entry → Seen
seen first t = record {
  time = clock t;
  there = λ u. connected u t;
  told = λ u. reports u t;
  heard = λ u. heard_at u t;
  pinged = λ u. pinged_at u t;
  forces = λ u. forced first u t;
  asked = λ u. driver_due u t;
  owed = λ c. due c t;
  followed = λ u. tracked first u t;
}

-- after a line of the driver of u
abbrev seen_line : ℕ → LineText → Seen → Seen
seen_line u line s = record s {
  told = λ v. if eqb u v then reported line (s.told v) else s.told v;
  heard = λ v. if eqb u v then (if is_heard line then s.time else s.heard v) else s.heard v;
  followed = λ v. if eqb u v then all_ended_by (told_in line) (s.followed v) else s.followed v;
}

seen-line : (first : Configuration) (u : ℕ) (line : LineText) (s : List Step) → seen first (trace first (Reported u line ∷ s)) ≡ seen_line u line (seen first (trace first s))
seen-line first u line s = refl

seen-lines : (first : Configuration) (u : ℕ) (ls : List LineText) (s s' : List Step) → seen first (trace first s) ≡ seen first (trace first s')
    → seen first (trace first (with_reports u ls s)) ≡ seen first (trace first (with_reports u ls s'))
seen-lines first u [] s s' same = same
seen-lines first u (l ∷ ls) s s' same =
    seen-lines first u ls (Reported u l ∷ s) (Reported u l ∷ s') (seen-line first u l s ∙ ap (seen_line u l) same ∙ sym (seen-line first u l s'))

input-reporting : (u : ℕ) (turns : List Turn) (h : List Event) (v : ℕ) → driver_input v (reporting u turns h) ≡ (if eqb u v then driver_input v h ++ bytes_of turns else driver_input v h)
input-reporting u [] h v = elim (cases_Bool (eqb u v)) [ inl e ↦ rw e (sym (append-nil (driver_input v h))) | inr e ↦ rw e refl ]
input-reporting u (Piece p ∷ turns) h v =
    let before = input-reporting u turns h v in
    elim (cases_Bool (eqb u v)) [
      | inl e ↦ rw e (ap (λ x. x ++ p) (before ∙ ap (λ b. if b then driver_input v h ++ bytes_of turns else driver_input v h) e) ∙ append_assoc (driver_input v h) (bytes_of turns) p)
      | inr e ↦ rw e (before ∙ ap (λ b. if b then driver_input v h ++ bytes_of turns else driver_input v h) e)
    ]
input-reporting u (Taken w n ∷ turns) h v = input-reporting u turns h v

own-input : (u : ℕ) (turns : List Turn) (h : List Event) → driver_input u (reporting u turns h) ≡ driver_input u h ++ bytes_of turns
own-input u turns h = input-reporting u turns h u ∙ ap (λ b. if b then driver_input u h ++ bytes_of turns else driver_input u h) (eq-eqb u u refl)

seen-reporting : (first : Configuration) (h : List Event) (u : ℕ) (turns : List Turn)
    → seen first (trace first (steps (reporting u turns h))) ≡ seen first (trace first (steps (DriverBytes u (bytes_of turns) ∷ h)))
seen-reporting first h u [] = sym (ap (λ ls. seen first (trace first (with_reports u ls (steps h)))) (brought_none (driver_input u h)))
seen-reporting first h u (Piece p ∷ turns) =
    let a = driver_input u h in
    let bytes = bytes_of turns in
    ap (λ i. seen first (trace first (with_reports u (brought i p) (steps (reporting u turns h))))) (own-input u turns h)
    ∙ seen-lines first u (brought (a ++ bytes) p) (steps (reporting u turns h)) (steps (DriverBytes u bytes ∷ h)) (seen-reporting first h u turns)
    ∙ ap (λ s. seen first (trace first s)) (sym (with_reports-append u (brought a bytes) (brought (a ++ bytes) p) (steps h)))
    ∙ ap (λ ls. seen first (trace first (with_reports u ls (steps h)))) (sym (brought-append a bytes p))
seen-reporting first h u (Taken v n ∷ turns) = seen-reporting first h u turns

-- a UPS, apart from what waits for its driver
abbrev device_seen : Seen → ℕ → Device
device_seen s v = record {
  connected = s.there v;
  table = table_of (s.told v);
  heard_at = s.heard v;
  pinged_at = s.pinged v;
  forced = s.forces v;
  waits = [];
  tracked = s.followed v;
}

pub driver-cuts-and-writes : DriverCutsAndWritesDoNotMatter
driver-cuts-and-writes = record {
  same_devices = λ first h u turns v. ap (λ s. device_seen s v) (seen-reporting first h u turns);
  same_rest = λ h u turns v. input-reporting u turns h v;
  same_requests = λ first h u turns v. ap (λ s. s.asked v) (seen-reporting first h u turns);
  same_answers = λ first h u turns c. ap (λ s. s.owed c) (seen-reporting first h u turns);
}
