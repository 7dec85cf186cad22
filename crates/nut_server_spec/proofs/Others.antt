-- Which connections and which UPSes an event changes.
use Rattle.std.proofs.Common.{◌≡◌, ℕ, ◌+◌, ◌<◌, false, eqb, List, [], ◌∷◌, drop, refl, ◌∙◌, ap, arith, Option, Some, None}
use Rattle.std.specs.Prelude.{option_map}
use Rattle.std.proofs.lemmas.Bool.{cases_Bool, eqb-true}
use Rattle.nut_words.specs.Lines.{LineText}
use Rattle.nut_server_spec.specs.Configuration.{Configuration}
use Rattle.nut_server_spec.specs.Event.{Event, Open, Took, DriverTook, DriverDown, Step, Said, Reported, with_lines, with_reports}
use Rattle.nut_server_spec.specs.Trace.{configuration, numbers, opened, open_numbers, trace}
use Rattle.nut_server_spec.specs.Content.{Content, past, content, session, down, fresh}
use Rattle.nut_server_spec.specs.Acceptance.{session_of, supply_of, waiting_of, asks_of}
use Rattle.nut_server_spec.specs.machine.Machine.{advance}
use Rattle.nut_server_spec.specs.laws.Laws.{IsOther, closes, connection_of, driver_of, OthersStay, OtherDriversStay, OpenedIsFresh, ClosedStaysClosed}
use Rattle.nut_server_spec.proofs.Law.{eqb_turn}
use Rattle.nut_server_spec.proofs.Numbers.{numbers_up_to}
use Rattle.nut_server_spec.proofs.Kept.{keeps-content, none_above}
use Rattle.nut_server_spec.proofs.Sessions.{session_of-filter, session_of-update_other, session_of-without_other, session_of-push, session_of-push_other, bytes_heard-other, waiting_of-took}
use Rattle.nut_server_spec.proofs.Supplies.{supply_of-update, supply_of-update_other, asks_of-drained}

-- An event leaves the sessions of other connections as they are.
pub advance-other : (s : Content) (e : Event) (d : ℕ) → IsOther d (connection_of s e) → closes s e d ≡ false → session_of d (advance s e).sessions ≡ session_of d s.sessions
advance-other s e d differ stays =
    grind (
      arith,
      stays,
      session_of-push_other,
      bytes_heard-other,
      eqb_turn,
      session_of-update_other,
      session_of-without_other,
      session_of-filter,
    )

-- how each event changes its own connection
pub advance-took : (s : Content) (c n : ℕ) → waiting_of c (advance s (Took c n)).sessions ≡ drop n (waiting_of c s.sessions)
advance-took s c n = waiting_of-took c n s.sessions

pub others-stay : OthersStay
others-stay first h e d accepted differ stays =
    ap (λ s. session_of d s.sessions) (keeps-content first h e accepted) ∙ advance-other (content first h) e d differ stays

-- ---- UPSes

turned : (w u v : ℕ) → Some w ≡ Some v → eqb v u ≡ false → eqb u w ≡ false
turned w u v is differ = let same : w ≡ v = cc in eqb_turn w u (ap (λ x. eqb x u) same ∙ differ)

-- An event of a driver leaves the other UPSes as they are.
pub advance-other_driver : (s : Content) (e : Event) (u v : ℕ) → driver_of e ≡ Some v → eqb v u ≡ false → supply_of u (advance s e).supplies ≡ supply_of u s.supplies
advance-other_driver s e u v is differ = grind (arith, supply_of-update_other, turned)

-- how each event changes its own UPS
pub advance-driver_took : (s : Content) (u n : ℕ) → asks_of u (advance s (DriverTook u n)).supplies ≡ drop n (asks_of u s.supplies)
advance-driver_took s u n = asks_of-drained u n s.supplies

pub advance-driver_down : (s : Content) (u : ℕ) → supply_of u (advance s (DriverDown u)).supplies ≡ option_map down (supply_of u s.supplies)
advance-driver_down s u = supply_of-update u down s.supplies

pub other-drivers-stay : OtherDriversStay
other-drivers-stay first h e u v accepted is differ =
    ap (λ s. supply_of u s.supplies) (keeps-content first h e accepted) ∙ advance-other_driver (content first h) e u v is differ

-- ---- connections that are opened

pub none_unopened : (first : Configuration) (h : List Event) (c : ℕ) → (content first h).opened < c → session_of c (content first h).sessions ≡ None
none_unopened first h c less = none_above c (opened (past first h)) (session first h) (open_numbers (past first h)) (λ d. refl) (numbers_up_to (past first h)) less

-- the session of a connection that is being opened
pub advance-open : (first : Configuration) (h : List Event) (address : List ℕ)
    → session_of ((content first h).opened + 1) (advance (content first h) (Open address)).sessions ≡ Some (fresh ((content first h).opened + 1) address)
advance-open first h address = grind (arith, session_of-push, none_unopened)

pub opened-fresh : OpenedIsFresh
opened-fresh first h address accepted =
    ap (λ s. session_of ((content first h).opened + 1) s.sessions) (keeps-content first h (Open address) accepted) ∙ advance-open first h address

-- ---- connections that are closed

pub closed-stays : ClosedStaysClosed
closed-stays first h e d accepted le none = stays (connection_of (content first h) e) refl where
  P : Option ℕ → Type 0
  P o = IsOther d o

  stays : (o : Option ℕ) → connection_of (content first h) e ≡ o → session_of d (content first (e ∷ h)).sessions ≡ None
  stays o is = grind (arith, others-stay, P, cases_Bool, eqb-true)

-- ---- what lines leave as it is

pub configuration_lines : (first : Configuration) (d : ℕ) (ls : List LineText) (s : List Step) → configuration first (trace first (with_lines d ls s)) ≡ configuration first (trace first s)
configuration_lines first d [] s = refl
configuration_lines first d (l ∷ ls) s = configuration_lines first d ls (Said d l ∷ s)

pub configuration_reports : (first : Configuration) (u : ℕ) (ls : List LineText) (s : List Step) → configuration first (trace first (with_reports u ls s)) ≡ configuration first (trace first s)
configuration_reports first u [] s = refl
configuration_reports first u (l ∷ ls) s = configuration_reports first u ls (Reported u l ∷ s)

pub numbers_lines : (first : Configuration) (d : ℕ) (ls : List LineText) (s : List Step) → numbers first (trace first (with_lines d ls s)) ≡ numbers first (trace first s)
numbers_lines first d [] s = refl
numbers_lines first d (l ∷ ls) s = numbers_lines first d ls (Said d l ∷ s)

pub numbers_reports : (first : Configuration) (u : ℕ) (ls : List LineText) (s : List Step) → numbers first (trace first (with_reports u ls s)) ≡ numbers first (trace first s)
numbers_reports first u [] s = refl
numbers_reports first u (l ∷ ls) s = numbers_reports first u ls (Reported u l ∷ s)
