-- At most 2,048 bytes of a line are kept, and at most 4,096 bytes wait for a driver.
use Rattle.std.proofs.Common.{◌≡◌, ℕ, ◌+◌, ◌<◌, ◌≤◌, Bool, true, false, eqb, leb, List, [], ◌∷◌, drop, length, refl, sym, ◌∙◌, ap, arith, inl, inr, Option, Some, None, length-append, length-drop}
use Rattle.std.specs.Prelude.{if◌then◌else◌, max, nat_lt}
use Rattle.std.proofs.lemmas.Bool.{cases_Bool, eqb-true, leb-true, ltb-true, ltb-false}
use Rattle.std.proofs.lemmas.Option.{get_or_from_slice_get}
use Rattle.nut_queue.specs.declared.limits.TheConstants.{ASKS_MAX}
use Rattle.nut_words.specs.Lines.{LineText, as_line}
use Rattle.nut_words.specs.Cutter.{kept_of}
use Rattle.nut_words.specs.declared.limits.TheConstants.{LINE_MAX}
use Rattle.nut_proto.specs.declared.driver_ask.DriverAsk.TheVariants.{Ping, DumpAll}
use Rattle.nut_proto.specs.DriverAsks.{ask_line}
use Rattle.nut_proto.specs.Lines.{line}
use Rattle.nut_server_spec.specs.Configuration.{Configuration}
use Rattle.nut_server_spec.specs.Command.{command_of}
use Rattle.nut_server_spec.specs.Device.{Device, absent, fits, needs_ping}
use Rattle.nut_server_spec.specs.Effect.{target, request_of, at_target}
use Rattle.nut_server_spec.specs.Event.{Event, Moment, Bytes, DriverUp, DriverBytes, DriverTook, DriverDown, Step, Clock, Said, Reported, input, driver_input, steps, with_lines, with_reports, brought, Reload}
use Rattle.nut_server_spec.specs.Answer.{device_at}
use Rattle.nut_server_spec.specs.Trace.{places, numbering, Entry, configuration, clock, device, connected, logged_out, driver_due, driver_taken, driver_waits, scene, caller, with_request, trace, answer_to, asks_at}
use Rattle.nut_server_spec.specs.Content.{past}
use Rattle.nut_server_spec.specs.laws.Laws.{BoundsHold}
use Rattle.nut_server_spec.proofs.Kept.{session_is, supply_is}
use Rattle.nut_server_spec.proofs.Places.{get_below, found_below}
use Rattle.nut_server_spec.proofs.Requests.{asked-fits}
use Rattle.nut_server_spec.specs.Numbering.{Fate, by_fate, fate_of}
use Rattle.nut_server_spec.proofs.Numbering.{no_ups_with, numbers_below}

-- ---- lines

pub line-bound : (text : List ℕ) → kept_of (as_line text) ≤ LINE_MAX
line-bound text = grind (arith, cases_Bool, leb, leb-true)

-- ---- what waits for a driver

abbrev IsBounded : Configuration → List Entry → ℕ → Type 0
IsBounded first t u = u < places first t → length (driver_waits u t) ≤ ASKS_MAX

fits-bound : (line : List ℕ) (d : Device) → fits line d ≡ true → length d.waits + length line ≤ ASKS_MAX
fits-bound line d holds = leb-true (length d.waits + length line) ASKS_MAX holds

-- If a request fits, what waits stays within the bound.
asked-bound : (is : Bool) (m : ℕ) (due : List ℕ) (request : Option (List ℕ)) → length (if is then drop m due else []) ≤ ASKS_MAX
    → ((line : List ℕ) → request ≡ Some line → length (if is then drop m due else []) + length line ≤ ASKS_MAX)
    → length (if is then drop m (with_request request due) else []) ≤ ASKS_MAX
asked-bound is m due request bounded fit = grind (arith, length-drop, length-append)

-- What waits stays within the bound when some of it is taken.
drained-bound : (is : Bool) (m n : ℕ) (due : List ℕ) → length (if is then drop m due else []) ≤ ASKS_MAX → length (if is then drop (m + n) due else []) ≤ ASKS_MAX
drained-bound is m n due bounded = grind (arith, length-drop)

needed-fits : (age time : ℕ) (d : Device) → needs_ping age time d ≡ true → fits (ask_line Ping) d ≡ true
needed-fits age time d holds = grind arith

ping-fits : (age time : ℕ) (d : Device) (line : List ℕ) → (if needs_ping age time d then Some (ask_line Ping) else None) ≡ Some line → fits line d ≡ true
ping-fits age time d line is = grind (arith, cases_Bool, needed-fits)

-- A line's request to a driver is sent only if it fits.
request-fits : (first : Configuration) (t : List Entry) (u c : ℕ) (text : LineText) (line : List ℕ) (o : Option ℕ) → u < places first t
    → target (numbering first t) (command_of text) ≡ o → at_target u o (λ none. request_of (command_of text) (answer_to first t c text)) None ≡ Some line
    → fits line (device first t u) ≡ true
request-fits first t u c text line None less goal is = cc
request-fits first t u c text line (Some v) less goal is =
    elim (cases_Bool (eqb v u)) [
      | inl e ↦
          let own : request_of (command_of text) (answer_to first t c text) ≡ Some line = rw e at is in
          let here : device_at (scene first t) u ≡ device first t u =
          get_or_from_slice_get _ u (device first t u) absent (get_below u (places first t) (device first t) less) in
          let there = asked-fits (scene first t) (caller first t c) (command_of text) v (logged_out c t) goal line own in
          ap (fits line) (sym here) ∙ ap (λ x. fits line (device_at (scene first t) x)) (sym (eqb-true v u e)) ∙ there
      | inr e ↦ absurd (let bad : None ≡ Some line = rw e at is in cc)
    ]

bounded-lines : (first : Configuration) (c u : ℕ) (ls : List LineText) (s : List Step) → IsBounded first (trace first s) u → IsBounded first (trace first (with_lines c ls s)) u
bounded-lines first c u [] s bounded = bounded
bounded-lines first c u (l ∷ ls) s bounded = bounded-lines first c u ls (Said c l ∷ s) (λ less.
    let t = trace first s in
    asked-bound (connected u t) (driver_taken u t) (driver_due u t) (asks_at first t (Said c l) u) (bounded less)
    (λ line is. fits-bound line (device first t u) (request-fits first t u c l line (target (numbering first t) (command_of l)) less refl is)))

bounded-reports : (first : Configuration) (v u : ℕ) (ls : List LineText) (s : List Step) → IsBounded first (trace first s) u → IsBounded first (trace first (with_reports v ls s)) u
bounded-reports first v u [] s bounded = bounded
bounded-reports first v u (l ∷ ls) s bounded = bounded-reports first v u ls (Reported v l ∷ s) bounded

-- What waits stays within the bound at a reload.
fated-bound : (fate : Fate) (is : Bool) (m : ℕ) (due : List ℕ) → length (if is then drop m due else []) ≤ ASKS_MAX
    → length (if by_fate fate false (λ before. false) is then drop (by_fate fate 0 (λ before. before) m) (by_fate fate [] (λ before. before) due) else []) ≤ ASKS_MAX
fated-bound fate is m due bounded = grind arith

dump-bound : length (ask_line DumpAll) ≤ ASKS_MAX
unfolding ask_line line
dump-bound = omega arith

waits-bound : (first : Configuration) (h : List Event) (u : ℕ) → IsBounded first (past first h) u
waits-bound first [] u less = omega arith
waits-bound first (Moment t ∷ h) u less =
    let p = past first h in
    asked-bound (connected u p) (driver_taken u p) (driver_due u p) (asks_at first p (Clock t) u) (waits-bound first h u less)
    (λ line is. fits-bound line (device first p u) (ping-fits (configuration first p).max_age (max (clock p) t) (device first p u) line is))
waits-bound first (Bytes c piece ∷ h) u less = bounded-lines first c u (brought (input c h) piece) (steps h) (waits-bound first h u) less
waits-bound first (DriverUp v ∷ h) u less =
    elim (cases_Bool (eqb v u)) [ inl e ↦ rw e dump-bound | inr e ↦ rw e (waits-bound first h u less) ]
waits-bound first (DriverBytes v piece ∷ h) u less = bounded-reports first v u (brought (driver_input v h) piece) (steps h) (waits-bound first h u) less
waits-bound first (DriverTook v n ∷ h) u less =
    let p = past first h in
    elim (cases_Bool (eqb v u)) [
      | inl e ↦ rw e (drained-bound (connected u p) (driver_taken u p) n (driver_due u p) (waits-bound first h u less))
      | inr e ↦ rw e (waits-bound first h u less)
    ]
waits-bound first (DriverDown v ∷ h) u less =
    elim (cases_Bool (eqb v u)) [ inl e ↦ rw e (omega arith) | inr e ↦ rw e (waits-bound first h u less) ]
waits-bound first (Reload k ∷ h) u less =
    elim (cases_Bool (nat_lt u (places first (past first h)))) [
      | inl e ↦
          fated-bound (fate_of k.upses (numbering first (past first h)) u) (connected u (past first h)) (driver_taken u (past first h)) (driver_due u (past first h))
          (waits-bound first h u (ltb-true u (places first (past first h)) e))
      | inr e ↦
          let none = no_ups_with (places first (past first h)) u (numbering first (past first h)) (numbers_below first (past first h)) (ltb-false u (places first (past first h)) e) in
          rw none (omega arith)
    ]
waits-bound first (e ∷ h) u less = waits-bound first h u less

pub bounds-hold : BoundsHold
bounds-hold first h accepted = grind (arith, session_is, line-bound, supply_is, waits-bound, found_below)
