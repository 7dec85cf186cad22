-- What an event of a link makes of the content, before the end of the event.
use Rattle.std.proofs.Common.{◌≡◌, ℕ, Bool, true, false, not, ◌&&◌, ◌⊎◌, inl, inr, eqb, List, [], ◌∷◌, ◌++◌, length, take, refl, sym, ◌∙◌, ap, arith, Option, Some, None, is_some, is_none, if◌then◌else◌, append-nil}
use Rattle.std.specs.List.{list_any}
use Rattle.std.specs.Option.{option_map}
use Rattle.std.proofs.lemmas.Bool.{eq-eqb}
use Rattle.nut_words.specs.Lines.{LineText}
use Rattle.nut_words.proofs.StreamGrowth.{rest-append}
use Rattle.nut_conf.specs.declared.notice.Notice.TheVariants as kinds
use Rattle.nut_link.specs.Exchange.{Exchange}
use Rattle.nut_link.specs.declared.outcome.Outcome.{Outcome}
use Rattle.nut_link.specs.Link.{fed, lines_heard, outcome_of}
use Rattle.nut_monitor_spec.specs.declared.Communication.TheVariants.{Bad}
use Rattle.nut_monitor_spec.specs.declared.Known.{Known}
use Rattle.nut_monitor_spec.specs.declared.LastQuery.{LastQuery}
use Rattle.nut_monitor_spec.specs.declared.Notice.{Notice}
use Rattle.nut_monitor_spec.specs.Configuration.{Configuration, line_in}
use Rattle.nut_monitor_spec.specs.Event.{Event, Linked, LinkBytes, LinkLost, OutOfMemory}
use Rattle.nut_monitor_spec.specs.Decision.{shutdown_told, told, loss_notices, communication_then}
use Rattle.nut_monitor_spec.specs.Trace.{Asked, Answer, Entry, is_any, is_link, clock, clock_after, moment_of, linked, input, queries, answers, answered_in, outstanding, waits, last_query, last_answer, last_of, number, communication, communication_after, known, is_replace, is_silence, begun, has_begun, has_ended, brought, answered, answer_to, first_answer, lost_by, came, notices_of_answer, notices_of_loss, notices_waiting, all_taken}
use Rattle.nut_monitor_spec.specs.Content.{Watch, Content, stage_in, link_at, watch, content_of, for_each_line}
use Rattle.nut_monitor_spec.specs.machine.Machine.{made, lost, known_after, answer_after, answer_told, watch_answered, watch_heard, told_heard, watch_out, told_out, given, link_made, link_lost, piece_heard, piece_out, loss_told, with_watch}
use Rattle.nut_monitor_spec.proofs.Lists.{for_each-update, number-none, number-head}
use Rattle.nut_monitor_spec.proofs.Answered.{when-none, event-any, false-either, of_event, known-none, known-some, answer-replace, answer-silence, replaces}
use Rattle.nut_monitor_spec.proofs.Apart.{IsOf, IsApart, is_on, other-watch}
use Rattle.nut_monitor_spec.proofs.Hears.{Comes, comes, first_by, going}
use Rattle.nut_monitor_spec.proofs.Settled.{IsIdle, IsAsked, told_entry, unsettled}

none-either : (b : Bool) → (let xs : List Notice = if b then [] else [] in xs) ≡ []
none-either b = grind arith

-- notices are added unless the shutdown has begun
given-law : (front : List Entry) (waiting more : List Notice) →
    waiting ++ (if is_any front then [] else more) ≡ (if is_none (moment_of front) then waiting ++ more else waiting)
given-law front waiting more = grind (arith, append-nil)

-- ---- an answer

-- the answer to the first of some lines: there is none, or it is this outcome
by-outcome : (i : ℕ) (asked : Asked) (all : Bool) (said : Option Outcome) →
    (answered i asked (if all then said else None) ≡ None)
    ⊎ ((outcome : Outcome) × (all ≡ true) × (answered i asked (if all then said else None) ≡ Some (record { link = i; asked = asked; outcome = outcome })))
by-outcome i asked all said = grind arith

-- An answer of link i: none, or an outcome of its outstanding query.
abbrev pub IsAnswerOf : Configuration → List Entry → ℕ → Option Answer → Type 0
IsAnswerOf configuration past i answer =
    (answer ≡ None)
    ⊎ ((asked : Asked) × (outcome : Outcome) × (outstanding i past ≡ Some asked) × (all_taken configuration i past ≡ true)
    × (answer ≡ Some (record { link = i; asked = asked; outcome = outcome })))

abbrev pub IsLossOf : ℕ → Option ℕ → Type 0
IsLossOf i lost = (lost ≡ None) ⊎ (lost ≡ Some i)

module _ (configuration : Configuration) (past : List Entry) (i : ℕ) where
  first-is : (texts : List LineText) →
      first_answer configuration past i texts ≡ first_by (line_in configuration.lines i) i (outstanding i past) (waits configuration i past) texts
  first-is texts = grind arith

  answer-by : (asked : Option Asked) → outstanding i past ≡ asked → (text : LineText) →
      IsAnswerOf configuration past i (answer_to (line_in configuration.lines i) i asked (all_taken configuration i past) text)
  answer-by asked is text = grind (arith, by-outcome)

  pub answer-cases : (texts : List LineText) → IsAnswerOf configuration past i (first_answer configuration past i texts)
  answer-cases texts = grind (arith, answer-by)

-- what holds without an answer, and of each outcome of the outstanding query, holds of the answer
by-answer : (configuration : Configuration) (past : List Entry) (i : ℕ) (P : Option Answer → Type 0) → P None
    → ((asked : Asked) (outcome : Outcome) → outstanding i past ≡ Some asked → P (Some (record { link = i; asked = asked; outcome = outcome })))
    → (answer : Option Answer) → IsAnswerOf configuration past i answer → P answer
by-answer configuration past i P none some answer is = grind arith

pub loss-cases : (i : ℕ) (answer : Option Answer) (texts : List LineText) → IsLossOf i (lost_by i answer texts)
loss-cases i o texts = grind arith

-- the last query is the outstanding one
pub last-asked : (configuration : Configuration) (past : List Entry) (i : ℕ) (asked : Asked) → IsIdle configuration i past ⊎ IsAsked configuration i past →
    outstanding i past ≡ Some asked → last_query i past ≡ Some (record { query = asked.query; moment = asked.moment })
last-asked configuration past i asked given is = grind (arith, number-none, number-head)

-- without an answer nothing changes in what is known
after-none : (configuration : Configuration) (time : ℕ) (watching : Bool) (last : Option LastQuery) (known : Known) →
    known_after configuration time watching last None known ≡ known
after-none configuration time watching last known = grind arith

told-none : (configuration : Configuration) (time i : ℕ) (last : Option LastQuery) (known : Known) → answer_told configuration time i last None known ≡ []
told-none configuration time i last known = grind arith

-- the last answer on the link after some lines
last-said : (configuration : Configuration) (past : List Entry) (i : ℕ) (answer : Option Answer) → IsIdle configuration i past ⊎ IsAsked configuration i past →
    IsAnswerOf configuration past i answer →
    last_of (answered_in i answer (answers i past)) ≡ answer_after (last_query i past) (option_map (λ a. a.outcome) answer) (last_answer i past)
last-said configuration past i answer tidy is = grind (arith, by-answer, eq-eqb, last-asked)

-- an event of link i that brings lines
module _ (configuration : Configuration) (past : List Entry) (i : ℕ) (event : Event) where
  abbrev ends : Bool
  ends = has_ended configuration (came configuration past event ∷ past) && not (has_ended configuration past)

  abbrev pub lines_told : Option Answer → Option ℕ → List Notice
  lines_told answer lost =
      of_event (has_begun configuration past) (notices_of_answer configuration past (clock_after event (clock past)) answer) (notices_of_loss past answer lost) [] ends

  abbrev pub lines_entry : Option Answer → Option ℕ → Entry
  lines_entry answer lost = record { event = event; answer = answer; lost = lost; put = λ j. None; notices = lines_told answer lost }

  loss-told : (test : Notice → Bool) (answer : Option Answer) (lost : Option ℕ) → ((j : ℕ) → test (told kinds.Commbad j) ≡ false) →
      list_any test (notices_of_loss past answer lost) ≡ false
  loss-told test answer lost not-this = grind (arith, when-none)

  lines-any : (test : Notice → Bool) (answer : Option Answer) (lost : Option ℕ) → test shutdown_told ≡ false → ((j : ℕ) → test (told kinds.Commbad j) ≡ false) →
      list_any test (lines_told answer lost)
      ≡ (if has_begun configuration past then false else list_any test (notices_of_answer configuration past (clock_after event (clock past)) answer))
  lines-any test answer lost last not-this = grind (arith, event-any, loss-told)

  -- what is known of the line after the answer, if there is one
  abbrev pub after_lines : Option Answer → Known
  after_lines answer =
      known_after configuration (clock_after event (clock past)) (is_none (moment_of (begun configuration past))) (last_query i past)
      (option_map (λ a. a.outcome) answer) (known i past)

  pub lines-known : (answer : Option Answer) (lost : Option ℕ) → IsIdle configuration i past ⊎ IsAsked configuration i past → IsAnswerOf configuration past i answer →
      known i (lines_entry answer lost ∷ past)
      ≡ record (after_lines answer) { communication = if is_link i lost then Bad else (after_lines answer).communication }
  lines-known answer lost tidy is =
      let time = clock_after event (clock past) in
      let watching = is_none (moment_of (begun configuration past)) in
      rw (by-answer configuration past i (λ a. known i (lines_entry a lost ∷ past) ≡ record (after_lines a) { communication = if is_link i lost then Bad else (after_lines a).communication }) (known-none configuration past i event (λ j. None) lost (lines_told None lost) (lines-any (is_replace i) None lost refl (λ j. refl) ∙ false-either (has_begun configuration past)) (lines-any (is_silence i) None lost refl (λ j. refl) ∙ false-either (has_begun configuration past)) ∙ ap (λ k. let m : Known = record k { communication = if is_link i lost then Bad else k.communication } in m) (sym (after-none configuration time watching (last_query i past) (known i past)))) (λ asked outcome out. let a : Answer = record { link = i; asked = asked; outcome = outcome } in known-some configuration past i event (λ j. None) asked outcome lost (lines_told (Some a) lost) (lines-any (is_replace i) (Some a) lost refl (λ j. refl) ∙ ap (λ b. if has_begun configuration past then false else b) (answer-replace configuration time i i (known i past) asked.query outcome)) (lines-any (is_silence i) (Some a) lost refl (λ j. refl) ∙ ap (λ b. if has_begun configuration past then false else b) (answer-silence configuration time i i (known i past) asked.query outcome) ∙ false-either (has_begun configuration past)) ∙ ap (λ l. let k : Known = known_after configuration time watching l (Some outcome) (known i past) in let m : Known = record k { communication = if is_link i lost then Bad else k.communication } in m) (sym (last-asked configuration past i asked tidy out))) answer is)

  -- the notices that the lines give
  said-told : (answer : Option Answer) → IsIdle configuration i past ⊎ IsAsked configuration i past → IsAnswerOf configuration past i answer →
      notices_of_answer configuration past (clock_after event (clock past)) answer
      ≡ answer_told configuration (clock_after event (clock past)) i (last_query i past) (option_map (λ a. a.outcome) answer) (known i past)
  said-told answer tidy is =
      let time = clock_after event (clock past) in
      by-answer configuration past i (λ a. notices_of_answer configuration past time a
      ≡ answer_told configuration time i (last_query i past) (option_map (λ x. x.outcome) a) (known i past))
      (sym (told-none configuration time i (last_query i past) (known i past)))
      (λ asked outcome out. ap (λ l. answer_told configuration time i l (Some outcome) (known i past)) (sym (last-asked configuration past i asked tidy out))) answer is

  -- communication before the loss of the link
  communication-law : (answer : Option Answer) → IsIdle configuration i past ⊎ IsAsked configuration i past → IsAnswerOf configuration past i answer →
      communication_after i answer (communication i past) ≡ (after_lines answer).communication
  communication-law answer tidy is =
      let time = clock_after event (clock past) in
      let watching = is_none (moment_of (begun configuration past)) in
      rw (by-answer configuration past i (λ a. communication_after i a (communication i past) ≡ (after_lines a).communication) (ap (λ k. let m : Known = k in m.communication) (sym (after-none configuration time watching (last_query i past) (known i past)))) (λ asked outcome out. ap (λ b. if b then communication_then asked.query outcome (communication i past) else communication i past) (eq-eqb i i refl) ∙ ap (λ l. let k : Known = known_after configuration time watching l (Some outcome) (known i past) in k.communication) (sym (last-asked configuration past i asked tidy out))) answer is)

  pub loss-law : (answer : Option Answer) (lost : Option ℕ) → IsIdle configuration i past ⊎ IsAsked configuration i past → IsAnswerOf configuration past i answer → IsLossOf i lost →
      notices_of_loss past answer lost ≡ (if is_some lost then loss_notices i (after_lines answer).communication else [])
  loss-law answer lost tidy is given = grind (arith, communication-law)

  -- the queries and answers on the link after the lines
  still-out : (answer : Option Answer) → IsIdle configuration i past ⊎ IsAsked configuration i past → IsAnswerOf configuration past i answer →
      number (length (answered_in i answer (answers i past))) (queries i past) ≡ (if is_some answer then None else outstanding i past)
  still-out answer tidy is = grind (arith, by-answer, eq-eqb, number-none)

  -- it leaves each other line as it was
  pub lines-apart : (answer : Option Answer) (lost : Option ℕ) → IsAnswerOf configuration past i answer → IsLossOf i lost →
      (j : ℕ) → eqb i j ≡ false → is_on j event ≡ false → IsApart i j (lines_entry answer lost) past
  lines-apart answer lost is loss j differ off =
      grind (arith, by-answer, answer-replace, replaces, answer-silence, IsOf, lines-any)

  -- the content, by what the event makes of the watch of its link and by the notices that it gives
  abbrev pub lines_content : Option Answer → Option ℕ → Content
  lines_content answer lost = record (content_of configuration past) {
    notices = notices_waiting past
        ++ (if has_begun configuration past then [] else notices_of_answer configuration past (clock_after event (clock past)) answer ++ notices_of_loss past answer lost ++ []);
    watches = for_each_line (watch configuration (lines_entry answer lost ∷ past)) configuration.lines;
  }

  pub lines-law : (answer : Option Answer) (lost : Option ℕ) → IsAnswerOf configuration past i answer → IsLossOf i lost → ((j : ℕ) → eqb i j ≡ false → is_on j event ≡ false) →
      (change : Watch → Watch) (told : List Notice) → watch configuration (lines_entry answer lost ∷ past) i ≡ change (watch configuration past i) →
      notices_of_answer configuration past (clock_after event (clock past)) answer ++ notices_of_loss past answer lost ≡ told →
      lines_content answer lost ≡ with_watch i change told (content_of configuration past)
  lines-law answer lost is loss off change told own said =
      let s = content_of configuration past in
      let more = notices_of_answer configuration past (clock_after event (clock past)) answer ++ notices_of_loss past answer lost in
      ap (λ ns. record (lines_content answer lost) { notices = ns })
      (given-law (begun configuration past) (notices_waiting past) (more ++ []) ∙ ap (λ ns. given ns s) (append-nil more ∙ said))
      ∙ ap (λ ws. record s { notices = given told s; watches = ws })
      (for_each-update i (watch configuration past) (watch configuration (lines_entry answer lost ∷ past)) change configuration.lines
      (λ j differ. other-watch i j (lines_entry answer lost) past (lines-apart answer lost is loss j differ (off j differ)) configuration) own)

-- ---- a link is made

module _ (configuration : Configuration) (past : List Entry) (i : ℕ) where
  abbrev made_entry : Entry
  made_entry = told_entry configuration past (Linked i)

  none-told : (event : Event) (lost : Option ℕ) (test : Notice → Bool) → test shutdown_told ≡ false → ((j : ℕ) → test (told kinds.Commbad j) ≡ false) →
      list_any test (lines_told configuration past i event None lost) ≡ false
  none-told event lost test last not-this = lines-any configuration past i event test None lost last not-this ∙ false-either (has_begun configuration past)

  made-own : watch configuration (made_entry ∷ past) i ≡ made (watch configuration past i)
  made-own = grind (arith, known-none, none-told, eq-eqb)

  pub made-apart : (j : ℕ) → eqb i j ≡ false → IsApart i j made_entry past
  made-apart j differ = lines-apart configuration past i (Linked i) None None (inl refl) (inl refl) j differ differ

  pub made-law : unsettled configuration past (Linked i) ≡ link_made i (content_of configuration past)
  made-law = grind (arith, unsettled, none-either, append-nil, for_each-update, other-watch, made-apart, made-own)

  -- ---- a link is lost

  abbrev lost_entry : Entry
  lost_entry = told_entry configuration past (LinkLost i)

  lost-own : watch configuration (lost_entry ∷ past) i ≡ lost (watch configuration past i)
  lost-own = grind (arith, known-none, none-told, eq-eqb)

  pub lost-apart : (j : ℕ) → eqb i j ≡ false → IsApart i j lost_entry past
  lost-apart j differ = lines-apart configuration past i (LinkLost i) None (Some i) (inl refl) (inr refl) j differ refl

  pub lost-law : unsettled configuration past (LinkLost i) ≡ link_lost i (Some (watch configuration past i)) (content_of configuration past)
  lost-law = lines-law configuration past i (LinkLost i) None (Some i) (inl refl) (inr refl) (λ j differ. refl) lost (loss_told i (watch configuration past i)) lost-own refl

-- ---- a piece

-- an event that brings these lines, which lose the link or not
module _ (configuration : Configuration) (past : List Entry) (i : ℕ) (event : Event) (texts : List LineText) (loss : Option ℕ) (lost-is : IsLossOf i loss)
    (tidy : IsIdle configuration i past ⊎ IsAsked configuration i past) where
  abbrev pub answer : Option Answer
  answer = first_answer configuration past i texts

  answer-is : IsAnswerOf configuration past i answer
  answer-is = answer-cases configuration past i texts

  abbrev pub after : Exchange
  after = lines_heard texts (going (stage_in (line_in configuration.lines i) (outstanding i past) (waits configuration i past)))

  pub heard-so : Comes (line_in configuration.lines i) i (outstanding i past) (waits configuration i past) texts after
  heard-so = comes (line_in configuration.lines i) i (outstanding i past) (waits configuration i past) texts

  pub outcome-is : outcome_of after ≡ option_map (λ a. a.outcome) answer
  outcome-is = heard-so.outcome ∙ ap (option_map (λ a. a.outcome)) (sym (first-is configuration past i texts))

  pub heard-told : notices_of_answer configuration past (clock_after event (clock past)) answer ++ notices_of_loss past answer loss
      ≡ answer_told configuration (clock_after event (clock past)) i (last_query i past) (outcome_of after) (known i past)
      ++ (if is_some loss
      then loss_told i (watch_answered configuration (clock_after event (clock past)) (is_none (moment_of (begun configuration past))) (outcome_of after) (watch configuration past i))
      else [])
  heard-told = grind (arith, said-told, answer-is, loss-law, outcome-is)

  pub heard-apart : (j : ℕ) → eqb i j ≡ false → is_on j event ≡ false → IsApart i j (lines_entry configuration past i event answer loss) past
  heard-apart = lines-apart configuration past i event answer loss answer-is lost-is

-- a piece that is heard
module _ (configuration : Configuration) (past : List Entry) (i : ℕ) (piece : List ℕ) (there : linked i past ≡ true)
    (tidy : IsIdle configuration i past ⊎ IsAsked configuration i past) where
  abbrev texts : List LineText
  texts = brought i past piece

  abbrev piece_event : Event
  piece_event = LinkBytes i piece

  abbrev loss : Option ℕ
  loss = lost_by i (first_answer configuration past i texts) texts

  loss-is : IsLossOf i loss
  loss-is = loss-cases i (first_answer configuration past i texts) texts

  abbrev line_heard : Exchange
  line_heard = after configuration past i piece_event texts loss loss-is tidy

  fault-is : is_some line_heard.fault ≡ is_some loss
  fault-is = (heard-so configuration past i piece_event texts loss loss-is tidy).fault ∙ ap (λ a. is_some (lost_by i a texts)) (sym (first-is configuration past i texts))

  piece-own : watch configuration (told_entry configuration past piece_event ∷ past) i
      ≡ watch_heard configuration (clock past) (is_none (moment_of (begun configuration past))) (fed piece (link_at configuration past i)) (watch configuration past i)
  piece-own =
      let said = first_answer configuration past i texts in
      let is = answer-cases configuration past i texts in
      let heard = heard-so configuration past i piece_event texts loss loss-is tidy in
      let known_is = lines-known configuration past i piece_event said loss tidy is in
      let last_is = last-said configuration past i said tidy is in
      let outcome = outcome-is configuration past i piece_event texts loss loss-is tidy in
      elim loss-is [
        | inl none ↦
            let going_on : is_some line_heard.fault ≡ false = fault-is ∙ ap is_some none in
            rw (
              known_is,
              last_is,
              none,
              going_on,
              outcome,
              heard.goes going_on,
              still-out configuration past i piece_event said tidy is,
              first-is configuration past i texts,
              there,
              eq-eqb i i refl,
              rest-append (input i past) piece,
            )
        | inr some ↦
            let failed : is_some line_heard.fault ≡ true = fault-is ∙ ap is_some some in
            rw (known_is, last_is, some, failed, outcome, eq-eqb i i refl)
      ]

  pub piece-apart : (j : ℕ) → eqb i j ≡ false → IsApart i j (told_entry configuration past piece_event) past
  piece-apart j differ = heard-apart configuration past i piece_event texts loss loss-is tidy j differ differ

  pub heard-law : unsettled configuration past piece_event ≡ piece_heard i piece (watch configuration past i) (Some (link_at configuration past i)) (content_of configuration past)
  heard-law =
      lines-law configuration past i piece_event (first_answer configuration past i texts) loss (answer-cases configuration past i texts) loss-is (λ j differ. differ)
      (watch_heard configuration (clock past) (is_none (moment_of (begun configuration past))) (fed piece (link_at configuration past i)))
      (told_heard configuration (clock past) i (is_none (moment_of (begun configuration past))) (fed piece (link_at configuration past i)) (watch configuration past i))
      piece-own (rw fault-is (heard-told configuration past i piece_event texts loss loss-is tidy))

-- a piece at which memory ran out
module _ (configuration : Configuration) (past : List Entry) (i : ℕ) (piece : List ℕ) (k : ℕ)
    (tidy : IsIdle configuration i past ⊎ IsAsked configuration i past) where
  abbrev out_texts : List LineText
  out_texts = take k (brought i past piece)

  abbrev out_event : Event
  out_event = OutOfMemory i piece k

  abbrev left_out : Exchange
  left_out = after configuration past i out_event out_texts (Some i) (inr refl) tidy

  out-own : watch configuration (told_entry configuration past out_event ∷ past) i
      ≡ watch_out configuration (clock past) (is_none (moment_of (begun configuration past))) left_out (watch configuration past i)
  out-own =
      let said = first_answer configuration past i out_texts in
      let is = answer-cases configuration past i out_texts in
      rw (
        lines-known configuration past i out_event said (Some i) tidy is,
        last-said configuration past i said tidy is,
        eq-eqb i i refl,
        outcome-is configuration past i out_event out_texts (Some i) (inr refl) tidy,
      )

  pub out-apart : (j : ℕ) → eqb i j ≡ false → IsApart i j (told_entry configuration past out_event) past
  out-apart j differ = heard-apart configuration past i out_event out_texts (Some i) (inr refl) tidy j differ refl

  pub out-law : unsettled configuration past out_event ≡ piece_out i piece k (watch configuration past i) (Some (link_at configuration past i)) (content_of configuration past)
  out-law =
      lines-law configuration past i out_event (first_answer configuration past i out_texts) (Some i) (answer-cases configuration past i out_texts) (inr refl) (λ j differ. refl)
      (watch_out configuration (clock past) (is_none (moment_of (begun configuration past))) left_out)
      (told_out configuration (clock past) i (is_none (moment_of (begun configuration past))) left_out (watch configuration past i)) out-own
      (heard-told configuration past i out_event out_texts (Some i) (inr refl) tidy)
