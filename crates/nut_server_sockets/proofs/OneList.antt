-- What waits for a client whose newest piece asks for at most one list.
use Rattle.std.proofs.Common.{◌≡◌, ◌⊎◌, ℕ, ◌+◌, ◌*◌, ◌<◌, ◌≤◌, false, sym, subst, eqb, List, [], ◌∷◌, ◌++◌, drop, length, map, refl, ◌∙◌, ap, arith, inl, inr, length-append, append_assoc, append-nil}
use Rattle.std.specs.List.{AllByRecursion}
use Rattle.std.specs.Prelude.{min, nat_le}
use Rattle.std.proofs.lemmas.Bool.{cases_Bool, eqb-true, eqb-false, eq-eqb}
use Rattle.std.proofs.lemmas.Bool.Decides.{nat_tests}
use Rattle.std.proofs.lemmas.List.{length-map}
use Rattle.std.proofs.Math.Seq.{drop-append_seam}
use Rattle.nut_conf.specs.declared.limits.TheConstants.{CONNECTIONS_MAX}
use Rattle.nut_words.specs.Lines.{LineText, Text, TooLong, joined, lines, lines_after, rest}
use Rattle.nut_words.specs.declared.limits.TheConstants.{LINE_MAX}
use Rattle.nut_words.specs.Reader as reader
use Rattle.nut_words.proofs.StreamGrowth.{lines-append, rest_at_line_feed, rest_within}
use Rattle.nut_proto.specs.declared.request.Request.{Request}
use Rattle.nut_state.specs.laws.Holds.{EveryTableHolds}
use Rattle.nut_server_spec.specs.Configuration.{Configuration}
use Rattle.nut_server_spec.specs.Command.{Command, Asks, Blank, command_of}
use Rattle.nut_server_spec.specs.Event.{Event, Bytes, DriverBytes, Reload, Step, Said, input, driver_input, steps, with_lines, brought}
use Rattle.nut_server_spec.specs.Answer.{Silence, Guest, answer, text_of}
use Rattle.nut_server_spec.specs.Device.{Device}
use Rattle.nut_server_spec.specs.Trace.{Entry, address, answer_to, caller, configuration, device, due, login, logged_out, open_numbers, reports, scene, trace, ups_numbers}
use Rattle.nut_server_spec.specs.Content.{Session, content, past, session}
use Rattle.nut_server_spec.specs.Acceptance.{IsAccepted, session_of}
use Rattle.nut_server_spec.specs.laws.Laws.{before_piece}
use Rattle.nut_server_spec.specs.laws.Limits.{AreWithin, IsWithin}
use Rattle.nut_server_spec.specs.declared.limits.TheConstants.{ADDRESS_MAX}
use Rattle.nut_server_spec.proofs.Alls.{all_map}
use Rattle.nut_server_spec.proofs.AnswerLengths.{IsShortScene, readable-command}
use Rattle.nut_server_spec.proofs.Kept.{due_reports}
use Rattle.nut_server_spec.proofs.LineLaws.{brought_none, brought-append, brought_line_feed, brought_within}
use Rattle.nut_server_spec.proofs.OnePiece.{waits-for-one-piece}
use Rattle.nut_server_spec.proofs.Tables.{IsShortTable, table_short}
use Rattle.nut_server_spec.proofs.Waiting.{allowed, few_history, piece_accepted}
use Rattle.nut_server_sockets.specs.Waits.{lists_in, OneListWaits}
use Rattle.nut_server_sockets.proofs.BriefAnswers.{answer_cost, most, most_of}
use Rattle.nut_server_sockets.proofs.LongLines.{short_lines}

-- ---- what lines and bytes are worth

-- the bytes that the answer to a line may have, unless it is a list
abbrev cost : LineText → ℕ
cost (Text []) = 0
cost (Text (b ∷ bytes)) = most_of (command_of (Text (b ∷ bytes)))
cost TooLong = 200

abbrev costs : List LineText → ℕ
costs [] = 0
costs (l ∷ ls) = cost l + costs ls

costs-append : (ls more : List LineText) → costs (ls ++ more) ≡ costs ls + costs more
costs-append [] more = omega arith
costs-append (l ∷ ls) more = omega (arith, costs-append ls more)

-- what the bytes of an unfinished line are worth: 126 bytes of its answer each, in all what is missing then to the longest
abbrev worth : LineText → ℕ
worth (Text bytes) = min (126 * length bytes) 1008
worth TooLong = 1008

most_within : (request : Request) → most request ≤ 1133
most_within other = grind arith

most_of_within : (command : Command) → most_of command ≤ 1133
most_of_within (Asks request) = most_within request
most_of_within other = omega arith

-- A line is worth its answer, with its line feed.
cost_within : (l : LineText) → cost l ≤ worth l + 126
cost_within (Text []) = omega arith
cost_within (Text (b ∷ bytes)) = by (short_lines (b ∷ bytes)) where
  by : (most_of (command_of (Text (b ∷ bytes))) ≤ 200) ⊎ (8 ≤ length (b ∷ bytes)) → cost (Text (b ∷ bytes)) ≤ worth (Text (b ∷ bytes)) + 126
  by (inl brief) = omega (arith, brief)
  by (inr long) = omega (arith, long, most_of_within (command_of (Text (b ∷ bytes))))
cost_within TooLong = omega arith

worth_within : (l : LineText) → worth l ≤ 1008
worth_within (Text bytes) = omega arith
worth_within TooLong = omega arith

-- One byte more is worth 126 bytes.
worth_more : (l : LineText) (b : ℕ) → worth (joined l (b ∷ [])) ≤ worth l + 126
worth_more (Text bytes) b =
    elim (cases_Bool (nat_le (length (bytes ++ b ∷ [])) LINE_MAX)) [
      | inl e ↦ rw e (omega (arith, length-append bytes (b ∷ [])))
      | inr e ↦ rw e (omega (arith, long (length (bytes ++ b ∷ [])) e, length-append bytes (b ∷ [])))
    ]
  where
    long : (n : ℕ) → nat_le n LINE_MAX ≡ false → LINE_MAX < n
    long n e = grind (arith, nat_tests)
worth_more TooLong b = omega arith

-- The answers to the lines of a piece, other than lists, have no more bytes than its bytes are worth.
few_bytes : (a piece : List ℕ) → costs (brought a piece) + worth (rest (a ++ piece)) ≤ 126 * length piece + worth (rest a)
few_bytes a [] =
    omega (arith, ap costs (brought_none a), ap (λ x. worth (rest x)) (append-nil a))
few_bytes a (b ∷ piece) =
    let later = few_bytes (a ++ b ∷ []) piece in
    let all = ap costs (brought-append a (b ∷ []) piece) ∙ costs-append (brought a (b ∷ [])) (brought (a ++ b ∷ []) piece) in
    let same = ap (λ x. worth (rest x)) (append_assoc a (b ∷ []) piece) in
    elim (cases_Bool (eqb b 10)) [
      | inl e ↦
          let feed : b ≡ 10 = eqb-true b 10 e in
          let own : costs (brought a (b ∷ [])) ≡ cost (rest a) + 0 = ap (λ x. costs (brought a (x ∷ []))) feed ∙ ap costs (brought_line_feed a) in
          let none : worth (rest (a ++ b ∷ [])) ≡ 0 = ap (λ x. worth (rest (a ++ x ∷ []))) feed ∙ ap worth (rest_at_line_feed a) in
          omega (arith, later, all, same, own, none, cost_within (rest a))
      | inr e ↦
          let own : costs (brought a (b ∷ [])) ≡ 0 = ap costs (brought_within a b e) in
          let more : worth (rest (a ++ b ∷ [])) ≤ worth (rest a) + 126 =
          subst (λ r. worth r ≤ worth (rest a) + 126) (sym (rest_within a b (eqb-false b 10 e))) (worth_more (rest a) b) in
          omega (arith, later, all, same, own, more)
    ]

-- ---- what the answers to a piece come to

silent : length (text_of Silence) ≡ 0
unfolding text_of
silent = refl

blank : command_of (Text []) ≡ Blank
unfolding reader.read
blank = refl

-- The configuration is within its limits, so few connections are open, and their addresses are short.
record IsShortPast (first : Configuration) (t : List Entry) : Type 0 where
  configured : IsWithin (configuration first t)
  few : length (open_numbers t) ≤ CONNECTIONS_MAX
  addresses : AllByRecursion (λ c. length (address c t) ≤ ADDRESS_MAX) (open_numbers t)

abbrev guest : Configuration → List Entry → ℕ → Guest
guest first t c = record { address = address c t; login = login first c t }

module _ {X Y : Type 0} (P : Y → Type 0) (f : X → Y) where
  of_mapped : (xs : List X) → AllByRecursion P (map f xs) → AllByRecursion (λ x. P (f x)) xs
  of_mapped [] all = tt
  of_mapped (x ∷ xs) all = (all.0, of_mapped xs all.1)

  as_mapped : (xs : List X) → AllByRecursion (λ x. P (f x)) xs → AllByRecursion P (map f xs)
  as_mapped [] all = tt
  as_mapped (x ∷ xs) all = (all.0, as_mapped xs all.1)

module _ (every : EveryTableHolds) (first : Configuration) where
  scene_short : (t : List Entry) → IsShortPast first t → IsShortScene (scene first t)
  scene_short t short = record {
    configured = short.configured;
    devices = all_map (λ (d : Device). IsShortTable d.table) (device first t) (ups_numbers first t) (λ u. table_short every (reports u t));
    nothing = table_short every [];
    guests = as_mapped (λ (g : Guest). length g.address ≤ ADDRESS_MAX) (guest first t) (open_numbers t) short.addresses;
    few = omega (arith, length-map (open_numbers t) (guest first t), short.few);
  }

  past_short : (h : List Event) → AreWithin first h → IsAccepted first h → IsShortPast first (past first h)
  past_short h within accepted =
      let are = few_history first h accepted in
      let t = past first h in
      record {
        configured = (allowed first h).1 within;
        few = omega (arith, length-map (open_numbers t) (session first h), are.few, (allowed first h).2 within);
        addresses = of_mapped (λ (k : Session). length k.address ≤ ADDRESS_MAX) (session first h) (open_numbers t) are.addresses;
      }

  said : (t : List Entry) (c : ℕ) (l : LineText) → IsShortPast first t → length (text_of (answer_to first t c l)) ≤ most_of (command_of l) + 578146 * lists_in (l ∷ [])
  said t c l short =
      elim (cases_Bool (logged_out c t)) [
        | inl e ↦ rw e (omega (arith, silent))
        | inr e ↦ rw e (omega (arith, answer_cost (scene first t) (scene_short t short) (caller first t c) (command_of l) (readable-command l)))
      ]

  line_cost : (t : List Entry) (c : ℕ) (l : LineText) → IsShortPast first t → length (text_of (answer_to first t c l)) ≤ cost l + 578146 * lists_in (l ∷ [])
  line_cost t c (Text []) short =
      let quiet : answer (scene first t) (caller first t c) (command_of (Text [])) ≡ Silence = ap (answer (scene first t) (caller first t c)) blank in
      elim (cases_Bool (logged_out c t)) [
        | inl e ↦ rw e (omega (arith, silent))
        | inr e ↦ rw e (omega (arith, ap (λ a. length (text_of a)) quiet, silent))
      ]
  line_cost t c (Text (b ∷ bytes)) short = said t c (Text (b ∷ bytes)) short
  line_cost t c TooLong short = said t c TooLong short

  lines_cost : (c : ℕ) (ls : List LineText) (s : List Step) → IsShortPast first (trace first s)
      → length (due c (trace first (with_lines c ls s))) ≤ length (due c (trace first s)) + costs ls + 578146 * lists_in ls
  lines_cost c [] s short = omega arith
  lines_cost c (l ∷ ls) s short =
      let text = text_of (answer_to first (trace first s) c l) in
      let one : due c (trace first (Said c l ∷ s)) ≡ due c (trace first s) ++ text = rw (eq-eqb c c refl) refl in
      let later = lines_cost c ls (Said c l ∷ s) (record { configured = short.configured; few = short.few; addresses = short.addresses }) in
      omega (arith, later, ap length one, length-append (due c (trace first s)) text, line_cost (trace first s) c l short)

  -- The lines of another connection add nothing.
  lines_other : (d c : ℕ) (ls : List LineText) (s : List Step) → eqb d c ≡ false → due c (trace first (with_lines d ls s)) ≡ due c (trace first s)
  lines_other d c [] s other = refl
  lines_other d c (l ∷ ls) s other = lines_other d c ls (Said d l ∷ s) other ∙ rw other refl

  -- the lines that the newest piece of c completed
  abbrev newest : ℕ → List Event → List LineText
  newest c h = drop (length (lines (input c (before_piece c h)))) (lines (input c h))

  newest_cost : (h : List Event) (c : ℕ) → AreWithin first h → IsAccepted first h
      → length (due c (past first h)) ≤ length (due c (past first (before_piece c h))) + 65520 + 578146 * lists_in (newest c h)
  newest_cost [] c within accepted = omega arith
  newest_cost (Bytes d piece ∷ h) c within accepted =
      elim (cases_Bool (eqb d c)) [
        | inl e ↦
            let same : d ≡ c = eqb-true d c e in
            let own = lines_cost d (brought (input d h) piece) (steps h) (past_short h within accepted.0) in
            let few = few_bytes (input d h) piece in
            let size = (piece_accepted piece (session_of d (content first h).sessions) accepted.1).0 in
            let lists = ap (λ x. lists_in (brought (input x h) piece)) same in
            let after = ap (λ x. length (due x (past first (Bytes d piece ∷ h)))) same in
            let before = ap (λ x. length (due x (past first h))) same in
            rw e (omega (arith, own, few, size, lists, after, before, worth_within (rest (input d h))))
        | inr e ↦
            let earlier = newest_cost h c within accepted.0 in
            let none = ap length (lines_other d c (brought (input d h) piece) (steps h) e) in
            rw e (omega (arith, earlier, none))
      ]
  newest_cost (DriverBytes u piece ∷ h) c within accepted =
      omega (arith, newest_cost h c within accepted.0, ap length (due_reports first c u (brought (driver_input u h) piece) (steps h)))
  newest_cost (Reload k ∷ h) c within accepted = newest_cost h c within.1 accepted.0
  newest_cost (e ∷ h) c within accepted = newest_cost h c within accepted.0

-- what a piece completes
brought_after : (a piece whole : List ℕ) → whole ≡ a ++ piece → drop (length (lines a)) (lines whole) ≡ lines_after (rest a) piece
brought_after a piece whole is = ap (λ x. drop (length (lines a)) (lines x)) is ∙ ap (drop (length (lines a))) (lines-append a piece) ∙ drop-append_seam (lines a) (lines_after (rest a) piece)

pub one_list_waits : EveryTableHolds → OneListWaits
one_list_waits every first h within accepted c k found piece is light =
    let newest = waits-for-one-piece first h c k accepted found in
    let old = due c (past first (before_piece c h)) in
    let whole = ap length newest.1 ∙ length-append (old ++ newest.0) k.waits in
    let lists = ap lists_in (brought_after (input c (before_piece c h)) piece (input c h) is) in
    omega (arith, whole, length-append old newest.0, newest_cost every first h c within accepted, lists, light)
