-- The machine keeps the content when a piece of bytes comes.
use Rattle.std.proofs.Common.{◌≡◌, ℕ, ◌≤◌, true, false, eqb, List, [], ◌∷◌, ◌++◌, map, length, refl, sym, ◌∙◌, ap, arith, inl, inr, length-append, Option, Some, None}
use Rattle.std.proofs.lemmas.Bool.{cases_Bool, eqb-true, eqb-false, eq-eqb}
use Rattle.nut_words.specs.Lines.{LineText, joined, rest}
use Rattle.nut_words.proofs.StreamGrowth.{rest_at_line_feed, rest_within}
use Rattle.nut_server_spec.specs.Configuration.{Configuration}
use Rattle.nut_server_spec.specs.Command.{command_of}
use Rattle.nut_server_spec.specs.Effect.{target, request_of, at_target}
use Rattle.nut_server_spec.specs.Event.{Event, Bytes, DriverBytes, Step, Said, Reported, input, driver_input, steps, with_lines, with_reports, brought}
use Rattle.nut_server_spec.specs.Answer.{text_of}
use Rattle.nut_server_spec.specs.Trace.{numbering, connected, given, given_then, open_numbers, due, driver_due, ups_numbers, with_request, trace, answer_to, asks_at}
use Rattle.nut_server_spec.specs.Content.{Session, Content, past, content, session}
use Rattle.nut_server_spec.specs.Acceptance.{session_of}
use Rattle.nut_server_spec.specs.machine.Machine.{advance, answer_in, line_heard, update_at, with_rest, with_supplies, after_answer, byte_heard, bytes_heard, byte_reported, bytes_reported}
use Rattle.nut_server_spec.proofs.LineLaws.{brought_line_feed, brought_within}
use Rattle.nut_server_spec.proofs.Places.{update-below, update_at-none, update_at-twice}
use Rattle.nut_server_spec.proofs.Sessions.{session_of-map}
use Rattle.nut_server_spec.proofs.Law.{content_from, supply_from, rests_of, takes_of, reports_of, scene_is, eqb_turn, rest-law, said_sessions, said_supplies, answered_past, reported_self, IsDriverCovered}
use Rattle.nut_server_spec.proofs.Cuts.{cut-law, driver_cut-law, law-no_bytes, law-no_report}

-- The client takes no more than is due.
abbrev pub IsCovered : Configuration → List Event → ℕ → Type 0
IsCovered first h c = takes_of h c ≤ length (due c (past first h))

abbrev pub AreDriversCovered : Configuration → List Event → Type 0
AreDriversCovered first h = (u : ℕ) → IsDriverCovered (past first h) u

-- c is open
abbrev pub IsThere : Configuration → List Event → ℕ → Type 0
IsThere first h c = session_of c (content first h).sessions ≡ Some (session first h c)

-- ---- a client's bytes

rests_other : (h : List Event) (c : ℕ) (piece : List ℕ) (d : ℕ) → eqb d c ≡ false → rests_of (Bytes c piece ∷ h) d ≡ rests_of h d
rests_other h c piece d differ = rw (eqb_turn d c differ) refl

rests_self : (h : List Event) (c : ℕ) (piece : List ℕ) → rests_of (Bytes c piece ∷ h) c ≡ rest (input c h ++ piece)
rests_self h c piece = rw (eq-eqb c c refl) refl

-- What the machine answers is what the history says.
answer_is : (first : Configuration) (h : List Event) (c : ℕ) (line : LineText)
    → answer_to first (past first h) c line ≡ answer_in (content first h) (command_of line) (session first h c)
answer_is first h c line = grind (arith, scene_is)

law-feed : (first : Configuration) (h : List Event) (c : ℕ) → IsCovered first h c → AreDriversCovered first h → IsThere first h c
    → content first (Bytes c (10 ∷ []) ∷ h) ≡ byte_heard c 10 (content first h)
law-feed first h c covered drivers there =
    let p = past first h in
    let s = content first h in
    let line = rests_of h c in
    let reply = answer_to first p c line in
    let rests' = rests_of (Bytes c (10 ∷ []) ∷ h) in
    let t = answered_past first p c line reply in
    ap (λ ls. content_from first (trace first (with_lines c ls (steps h))) rests' (takes_of h) (reports_of h)) (brought_line_feed (input c h))
    ∙ ap (λ sessions. record s { given = given_then reply (given p); sessions = sessions; supplies = map (supply_from first t (reports_of h)) (ups_numbers first p) })
    (said_sessions first p c line reply (λ u. at_target u (target (numbering first p) (command_of line)) (λ none. request_of (command_of line) reply) None)
    (rests_of h) rests' (takes_of h) covered (rests_other h c (10 ∷ [])) (rests_self h c (10 ∷ []) ∙ rest_at_line_feed (input c h)))
    ∙ ap (λ supplies. record (after_answer c (command_of line) reply s) { supplies = supplies }) (said_supplies first p c line reply (reports_of h) drivers)
    ∙ ap (λ r. after_answer c (command_of line) r s) (answer_is first h c line)
    ∙ sym (ap (λ o. line_heard c o s) there)

law-other_byte : (first : Configuration) (h : List Event) (c b : ℕ) → eqb b 10 ≡ false → content first (Bytes c (b ∷ []) ∷ h) ≡ byte_heard c b (content first h)
law-other_byte first h c b other =
    ap (λ ls. content_from first (trace first (with_lines c ls (steps h))) (rests_of (Bytes c (b ∷ []) ∷ h)) (takes_of h) (reports_of h)) (brought_within (input c h) b other)
    ∙ rw other (rest-law first (past first h) c (rests_of h) (rests_of (Bytes c (b ∷ []) ∷ h)) (takes_of h) (reports_of h)
    (λ k. with_rest (joined k.rest (b ∷ [])) k) (rests_other h c (b ∷ []))
    (ap (λ r. with_rest r (session first h c)) (sym (rests_self h c (b ∷ []) ∙ rest_within (input c h) b (eqb-false b 10 other)))))

law-byte : (first : Configuration) (h : List Event) (c b : ℕ) → IsCovered first h c → AreDriversCovered first h → IsThere first h c
    → content first (Bytes c (b ∷ []) ∷ h) ≡ byte_heard c b (content first h)
law-byte first h c b covered drivers there = grind (arith, cases_Bool, eqb-true, law-feed, law-other_byte)

-- The answers due grow at the end.
due_grows : (first : Configuration) (c d : ℕ) (ls : List LineText) (s : List Step) → length (due d (trace first s)) ≤ length (due d (trace first (with_lines c ls s)))
due_grows first c d [] s = omega arith
due_grows first c d (l ∷ ls) s =
    let more = due_grows first c d ls (Said c l ∷ s) in
    let one : length (due d (trace first s)) ≤ length (due d (trace first (Said c l ∷ s))) =
    elim (cases_Bool (eqb c d)) [
      | inl e ↦ rw e (omega (arith, length-append (due d (trace first s)) (text_of (answer_to first (trace first s) c l))))
      | inr e ↦ rw e (omega arith)
    ] in
    omega (arith, more, one)

pub covered_bytes : (first : Configuration) (h : List Event) (c d : ℕ) (piece : List ℕ) → IsCovered first h d → IsCovered first (Bytes c piece ∷ h) d
covered_bytes first h c d piece covered = omega (arith, covered, due_grows first c d (brought (input c h) piece) (steps h))

-- The requests due to a driver grow at the end.
pub request_grows : (request : Option (List ℕ)) (x : List ℕ) → length x ≤ length (with_request request x)
request_grows request x = grind (arith, length-append)

drivers_lines : (first : Configuration) (c : ℕ) (ls : List LineText) (s : List Step) → ((u : ℕ) → IsDriverCovered (trace first s) u) → (u : ℕ) → IsDriverCovered (trace first (with_lines c ls s)) u
drivers_lines first c [] s covered u = covered u
drivers_lines first c (l ∷ ls) s covered u =
    drivers_lines first c ls (Said c l ∷ s)
    (λ v. omega (arith, covered v, request_grows (asks_at first (trace first s) (Said c l) v) (driver_due v (trace first s)))) u

pub drivers_bytes : (first : Configuration) (h : List Event) (c : ℕ) (piece : List ℕ) → AreDriversCovered first h → AreDriversCovered first (Bytes c piece ∷ h)
drivers_bytes first h c piece covered u = drivers_lines first c (brought (input c h) piece) (steps h) covered u

-- The connection c stays open.
pub open_numbers_lines : (first : Configuration) (d : ℕ) (ls : List LineText) (s : List Step) → open_numbers (trace first (with_lines d ls s)) ≡ open_numbers (trace first s)
open_numbers_lines first d [] s = refl
open_numbers_lines first d (l ∷ ls) s = open_numbers_lines first d ls (Said d l ∷ s)

there_same : (c : ℕ) (f g : ℕ → Session) (ns : List ℕ) → ((d : ℕ) → (f d).number ≡ d) → ((d : ℕ) → (g d).number ≡ d)
    → session_of c (map f ns) ≡ Some (f c) → session_of c (map g ns) ≡ Some (g c)
there_same c f g ns nf ng there = grind (arith, session_of-map)

there_bytes : (first : Configuration) (h : List Event) (c : ℕ) (piece : List ℕ) → IsThere first h c → IsThere first (Bytes c piece ∷ h) c
there_bytes first h c piece there = grind (arith, open_numbers_lines, there_same)

pub law-bytes : (first : Configuration) (h : List Event) (c : ℕ) (piece : List ℕ) → IsCovered first h c → AreDriversCovered first h → IsThere first h c
    → content first (Bytes c piece ∷ h) ≡ advance (content first h) (Bytes c piece)
law-bytes first h c [] covered drivers there = law-no_bytes first h c
law-bytes first h c (b ∷ piece) covered drivers there =
    cut-law first h c (b ∷ []) piece
    ∙ law-bytes first (Bytes c (b ∷ []) ∷ h) c piece (covered_bytes first h c c (b ∷ []) covered) (drivers_bytes first h c (b ∷ []) drivers) (there_bytes first h c (b ∷ []) there)
    ∙ ap (bytes_heard c piece) (law-byte first h c b covered drivers there)

-- ---- a driver's bytes

reports_self : (h : List Event) (u : ℕ) (piece : List ℕ) → reports_of (DriverBytes u piece ∷ h) u ≡ rest (driver_input u h ++ piece)
reports_self h u piece = rw (eq-eqb u u refl) refl

-- how one byte of the driver of u changes a content
abbrev after_report : ℕ → ℕ → Content → Content
after_report u b s = with_supplies (update_at u (byte_reported s.clock b) s.supplies) s

law-report_feed : (first : Configuration) (h : List Event) (u : ℕ) → connected u (past first h) ≡ true → content first (DriverBytes u (10 ∷ []) ∷ h) ≡ after_report u 10 (content first h)
law-report_feed first h u is =
    grind (
      arith,
      reports_of,
      content_from,
      rests_of,
      takes_of,
      brought_line_feed,
      update-below,
      supply_from,
      eqb_turn,
      reported_self,
      reports_self,
      rest_at_line_feed,
    )

law-report_other : (first : Configuration) (h : List Event) (u b : ℕ) → connected u (past first h) ≡ true → eqb b 10 ≡ false → content first (DriverBytes u (b ∷ []) ∷ h) ≡ after_report u b (content first h)
law-report_other first h u b is other =
    grind (
      arith,
      reports_of,
      content_from,
      rests_of,
      takes_of,
      brought_within,
      update-below,
      supply_from,
      eqb_turn,
      reports_self,
      rest_within,
      eqb-false,
    )

law-report_byte : (first : Configuration) (h : List Event) (u b : ℕ) → connected u (past first h) ≡ true → content first (DriverBytes u (b ∷ []) ∷ h) ≡ after_report u b (content first h)
law-report_byte first h u b up = grind (arith, cases_Bool, eqb-true, law-report_feed, law-report_other)

pub connected_reports : (first : Configuration) (u v : ℕ) (ls : List LineText) (s : List Step) → connected v (trace first (with_reports u ls s)) ≡ connected v (trace first s)
connected_reports first u v [] s = refl
connected_reports first u v (l ∷ ls) s = connected_reports first u v ls (Reported u l ∷ s)

pub law-driver_bytes : (first : Configuration) (h : List Event) (u : ℕ) (piece : List ℕ) → connected u (past first h) ≡ true → content first (DriverBytes u piece ∷ h) ≡ advance (content first h) (DriverBytes u piece)
law-driver_bytes first h u [] up =
    law-no_report first h u ∙ sym (ap (λ supplies. with_supplies supplies (content first h)) (update_at-none u (bytes_reported (content first h).clock []) (content first h).supplies (λ d. refl)))
law-driver_bytes first h u (b ∷ piece) up =
    let s = content first h in
    driver_cut-law first h u (b ∷ []) piece
    ∙ law-driver_bytes first (DriverBytes u (b ∷ []) ∷ h) u piece (connected_reports first u u (brought (driver_input u h) (b ∷ [])) (steps h) ∙ up)
    ∙ ap (λ x. advance x (DriverBytes u piece)) (law-report_byte first h u b up)
    ∙ ap (λ supplies. with_supplies supplies s) (update_at-twice u (byte_reported s.clock b) (bytes_reported s.clock piece) s.supplies)
