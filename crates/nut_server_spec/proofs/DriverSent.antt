-- What a driver was sent, and what waits for it, after each event.
use Rattle.std.proofs.Common.{arith}
use Rattle.std.proofs.Common.{◌≡◌, ℕ, ◌+◌, ◌≤◌, Bool, true, false, eqb, List, [], ◌∷◌, ◌++◌, take, drop, length, refl, sym, ◌∙◌, ap, inl, inr, append_assoc, append-nil, Option, Some, None, subst}
use Rattle.std.specs.Prelude.{◌==◌, if◌then◌else◌}
use Rattle.std.proofs.lemmas.Bool.{cases_Bool, eqb-true, eq-eqb}
use Rattle.std.proofs.lemmas.List.{take-append-le, take-append-drop}
use Rattle.std.proofs.Math.Seq.{take-add}
use Rattle.nut_words.specs.Lines.{LineText}
use Rattle.nut_words.specs.Quoting.{Begins}
use Rattle.nut_server_spec.specs.declared.Refused.{Refused}
use Rattle.nut_server_spec.specs.Configuration.{Configuration}
use Rattle.nut_server_spec.specs.Event.{Event, Moment, Bytes, DriverUp, DriverBytes, DriverTook, Step, Said, Reported, driver_input, steps, with_lines, with_reports, brought, Reload}
use Rattle.nut_server_spec.specs.Trace.{driver_due, driver_taken, driver_sent, driver_waits, with_request, asks_at, trace, numbering}
use Rattle.nut_server_spec.specs.Content.{Supply, Content, past, content}
use Rattle.nut_server_spec.specs.Acceptance.{refusal, IsAccepted, Tells, supply_of, drain_refusal, asks_of}
use Rattle.nut_server_spec.specs.Outcome.{after_refusal}
use Rattle.nut_server_spec.specs.laws.Laws.{driver_received, DriverSentIsReceived, DriverSentAndWaitingIsDue}
use Rattle.nut_server_spec.proofs.Kept.{supply_is, drivers_covered}
use Rattle.nut_server_spec.specs.Numbering.{Fate, by_fate, fate_of, is_cleared}
use Rattle.std.specs.Option.{option_map_or}
use Rattle.nut_server_spec.specs.machine.MachineOutcome.{lost, lost_report}

-- how many bytes the driver of u takes in an event, and whether the event connects it anew or clears
-- its UPS
abbrev pub drained_by : ℕ → Event → ℕ
drained_by u (DriverTook v n) = if v == u then n else 0
drained_by u e = 0

abbrev pub begins_anew : Configuration → List Event → ℕ → Event → Bool
begins_anew first h u (DriverUp v) = v == u
begins_anew first h u (Reload k) = is_cleared (fate_of k.upses (numbering first (past first h)) u)
begins_anew first h u e = false

-- ---- requests are added at the end

request_begins : (request : Option (List ℕ)) (x : List ℕ) → Begins x (with_request request x)
request_begins None x = ([], sym (append-nil x))
request_begins (Some line) x = (line, refl)

begins-on : (x y z : List ℕ) → Begins x y → Begins y z → Begins x z
begins-on x y z one two = (one.0 ++ two.0, two.1 ∙ ap (λ w. w ++ two.0) one.1 ∙ append_assoc x one.0 two.0)

lines_begin : (first : Configuration) (c u : ℕ) (ls : List LineText) (s : List Step) → Begins (driver_due u (trace first s)) (driver_due u (trace first (with_lines c ls s)))
lines_begin first c u [] s = ([], sym (append-nil (driver_due u (trace first s))))
lines_begin first c u (l ∷ ls) s =
    begins-on (driver_due u (trace first s)) (driver_due u (trace first (Said c l ∷ s))) (driver_due u (trace first (with_lines c (l ∷ ls) s)))
    (request_begins (asks_at first (trace first s) (Said c l) u) (driver_due u (trace first s))) (lines_begin first c u ls (Said c l ∷ s))

taken_lines : (first : Configuration) (c u : ℕ) (ls : List LineText) (s : List Step) → driver_taken u (trace first (with_lines c ls s)) ≡ driver_taken u (trace first s)
taken_lines first c u [] s = refl
taken_lines first c u (l ∷ ls) s = taken_lines first c u ls (Said c l ∷ s)

sent_reports : (first : Configuration) (v u : ℕ) (ls : List LineText) (s : List Step) → driver_sent u (trace first (with_reports v ls s)) ≡ driver_sent u (trace first s)
sent_reports first v u [] s = refl
sent_reports first v u (l ∷ ls) s = sent_reports first v u ls (Reported v l ∷ s)

-- a further request leaves what was sent as it is
sent_more : (n : ℕ) (x y : List ℕ) → n ≤ length x → Begins x y → take n y ≡ take n x
sent_more n x y covered more = ap (take n) more.1 ∙ take-append-le n x more.0 covered

-- ---- after each event

pub driver_sent-moment : (first : Configuration) (h : List Event) (u t : ℕ) → IsAccepted first h → driver_sent u (past first (Moment t ∷ h)) ≡ driver_sent u (past first h)
driver_sent-moment first h u t accepted = grind (arith, sent_more, drivers_covered, request_begins)

pub driver_sent-bytes : (first : Configuration) (h : List Event) (c u : ℕ) (piece : List ℕ) → IsAccepted first h → driver_sent u (past first (Bytes c piece ∷ h)) ≡ driver_sent u (past first h)
driver_sent-bytes first h c u piece accepted = grind (arith, taken_lines, sent_more, drivers_covered, lines_begin)

pub driver_sent-reports : (first : Configuration) (h : List Event) (v u : ℕ) (piece : List ℕ) → driver_sent u (past first (DriverBytes v piece ∷ h)) ≡ driver_sent u (past first h)
driver_sent-reports first h v u piece = sent_reports first v u (brought (driver_input v h) piece) (steps h)

-- A reload leaves what a driver was sent as it is, unless it clears the UPS.
sent_fated : (fate : Fate) (n : ℕ) (x : List ℕ) → take (by_fate fate 0 (λ before. before) n) (by_fate fate [] (λ before. before) x) ≡ (if is_cleared fate then [] else take n x)
sent_fated fate n x = grind arith

pub driver_sent-reload : (first : Configuration) (h : List Event) (u : ℕ) (k : Configuration)
    → driver_sent u (past first (Reload k ∷ h)) ≡ (if is_cleared (fate_of k.upses (numbering first (past first h)) u) then [] else driver_sent u (past first h))
driver_sent-reload first h u k = sent_fated (fate_of k.upses (numbering first (past first h)) u) (driver_taken u (past first h)) (driver_due u (past first h))

-- If a driver may take bytes, it is connected.
pub connected_took : (n : ℕ) (o : Option Supply) → drain_refusal n o ≡ None → (d : Supply) × (o ≡ Some d) × (d.device.connected ≡ true)
connected_took n o accepted = grind (arith, cases_Bool)

-- the bytes that wait for the driver of a UPS: none if there is no such UPS
abbrev pub asks_in : Option Supply → List ℕ
asks_in found = option_map_or (λ d. d.device.waits) found []

-- What the content says waits for a driver is what the history says.
pub asks_are : (first : Configuration) (h : List Event) (u : ℕ) (d : Supply) → supply_of u (content first h).supplies ≡ Some d → asks_of u (content first h).supplies ≡ driver_waits u (past first h)
asks_are first h u d found = ap asks_in found ∙ ap (λ d. d.device.waits) (supply_is first h u d found)

pub asks_are_told : (first : Configuration) (h : List Event) (s : Content) (u : ℕ) (d : Supply) → Tells first h s → supply_of u s.supplies ≡ Some d → asks_of u s.supplies ≡ driver_waits u (past first h)
asks_are_told first h s u d told found = grind (arith, asks_are)

took_waits : (is : Bool) (m n : ℕ) (due : List ℕ) → is ≡ true → take (m + n) due ≡ take m due ++ take n (if is then drop m due else [])
took_waits x0 m n due is = grind (arith, take-add)

took_bytes : (first : Configuration) (h : List Event) (u n : ℕ) → refusal (content first h) (DriverTook u n) ≡ None
    → take (driver_taken u (past first h) + n) (driver_due u (past first h)) ≡ driver_sent u (past first h) ++ take n (driver_waits u (past first h))
took_bytes first h u n accepted = grind (arith, connected_took, supply_is, took_waits)

pub driver_sent-took : (first : Configuration) (h : List Event) (u n : ℕ) → refusal (content first h) (DriverTook u n) ≡ None
    → driver_sent u (past first (DriverTook u n ∷ h)) ≡ driver_sent u (past first h) ++ take n (driver_waits u (past first h))
driver_sent-took first h u n accepted = grind (arith, took_bytes, eq-eqb)

pub driver_sent-took_told : (first : Configuration) (h : List Event) (s : Content) (u n : ℕ) → Tells first h s → refusal s (DriverTook u n) ≡ None
    → driver_sent u (past first (DriverTook u n ∷ h)) ≡ driver_sent u (past first h) ++ take n (asks_of u s.supplies)
driver_sent-took_told first h s u n told accepted = grind (arith, connected_took, driver_sent-took, asks_are_told)

-- An accepted event adds what the driver of u takes to what it was sent, unless the event connects it anew or
-- clears its UPS.
pub driver_sent-step : (first : Configuration) (h : List Event) (u : ℕ) (e : Event) → IsAccepted first (e ∷ h)
    → driver_sent u (past first (e ∷ h)) ≡ (if begins_anew first h u e then [] else driver_sent u (past first h) ++ take (drained_by u e) (driver_waits u (past first h)))
driver_sent-step first h u e accepted =
    grind (
      arith,
      driver_sent-moment,
      append-nil,
      driver_sent-bytes,
      cases_Bool,
      driver_sent-reports,
      took_bytes,
      eqb-true,
      driver_sent-reload,
    )

-- An event in which the driver of u takes nothing, and which doesn't connect it, changes nothing of what it was sent.
pub driver_sent-other : (first : Configuration) (h : List Event) (u : ℕ) (e : Event) → IsAccepted first (e ∷ h) → drained_by u e ≡ 0 → begins_anew first h u e ≡ false
    → driver_sent u (past first (e ∷ h)) ≡ driver_sent u (past first h)
driver_sent-other first h u e accepted nothing stays = grind (arith, driver_sent-step, append-nil)

-- Nor does a lack of memory in a piece.
pub driver_sent-lost : (first : Configuration) (h : List Event) (c u : ℕ) (piece : List ℕ) (k : ℕ) → IsAccepted first h → driver_sent u (past first (lost c piece k h)) ≡ driver_sent u (past first h)
driver_sent-lost first h c u piece k accepted = grind (arith, driver_sent-bytes)

pub driver_sent-lost_report : (first : Configuration) (h : List Event) (v u : ℕ) (piece : List ℕ) (k : ℕ) → driver_sent u (past first (lost_report v piece k h)) ≡ driver_sent u (past first h)
driver_sent-lost_report first h v u piece k = grind (arith, driver_sent-reports)

-- Nor does any other refusal.
pub driver_sent-refused : (first : Configuration) (h : List Event) (u : ℕ) (r : Refused) (e : Event) → IsAccepted first h → driver_sent u (past first (after_refusal r e h)) ≡ driver_sent u (past first h)
driver_sent-refused first h u r e accepted = grind (arith, driver_sent-lost, driver_sent-lost_report)

-- ---- the laws

pub driver_sent-received : DriverSentIsReceived
driver_sent-received first [] u accepted = refl
driver_sent-received first (Moment t ∷ h) u accepted = driver_sent-moment first h u t accepted.0 ∙ driver_sent-received first h u accepted.0
driver_sent-received first (Bytes c piece ∷ h) u accepted = driver_sent-bytes first h c u piece accepted.0 ∙ driver_sent-received first h u accepted.0
driver_sent-received first (DriverUp v ∷ h) u accepted =
    elim (cases_Bool (eqb v u)) [ inl e ↦ rw e refl | inr e ↦ rw e (driver_sent-received first h u accepted.0) ]
driver_sent-received first (DriverBytes v piece ∷ h) u accepted = driver_sent-reports first h v u piece ∙ driver_sent-received first h u accepted.0
driver_sent-received first (DriverTook v n ∷ h) u accepted =
    elim (cases_Bool (eqb v u)) [
      | inl e ↦
          let P : ℕ → Type 0 = λ x. refusal (content first h) (DriverTook x n) ≡ None in
          let here : refusal (content first h) (DriverTook u n) ≡ None = subst P (eqb-true v u e) accepted.1 in
          let found = connected_took n (supply_of u (content first h).supplies) here in
          rw e (took_bytes first h u n here ∙ ap (λ bytes. bytes ++ take n (driver_waits u (past first h))) (driver_sent-received first h u accepted.0)
          ∙ ap (λ bytes. driver_received first u h ++ take n bytes) (sym (asks_are first h u found.0 found.1)))
      | inr e ↦ rw e (driver_sent-received first h u accepted.0)
    ]
driver_sent-received first (Reload k ∷ h) u accepted =
    driver_sent-reload first h u k ∙ ap (λ bytes. if is_cleared (fate_of k.upses (numbering first (past first h)) u) then [] else bytes) (driver_sent-received first h u accepted.0)
driver_sent-received first (e ∷ h) u accepted = driver_sent-received first h u accepted.0

waits_due : (is : Bool) (m : ℕ) (due : List ℕ) → is ≡ true → take m due ++ (if is then drop m due else []) ≡ due
waits_due x0 m due is = grind (arith, take-append-drop)

pub driver_sent-waiting-due : DriverSentAndWaitingIsDue
driver_sent-waiting-due first h u d accepted found is = grind (arith, supply_is, waits_due)
