-- `LinkTook` and `NoticeTaken` move no phase and put no query.
use Rattle.std.proofs.Common.{◌≡◌, ℕ, ◌+◌, ◌≤◌, ◌<◌, Bool, true, false, not, ◌&&◌, inl, inr, eqb, List, [], ◌∷◌, ◌++◌, length, drop, refl, sym, ◌∙◌, ap, subst, arith, Option, None, is_some, if◌then◌else◌, append-nil, drop-drop, length-drop}
use Rattle.std.proofs.lemmas.Bool.{eq-eqb, eqb-true, le-leb}
use Rattle.nut_link.specs.Exchange.{Exchange}
use Rattle.nut_link.specs.Link.{LinkValue, stage_taken}
use Rattle.nut_link.specs.Link
use Rattle.nut_monitor_spec.specs.Trace
use Rattle.nut_monitor_spec.specs.Configuration.{Line, Configuration, line_in}
use Rattle.nut_monitor_spec.specs.Event.{Event, LinkTook, NoticeTaken}
use Rattle.nut_monitor_spec.specs.Decision.{shutdown_told, when}
use Rattle.nut_monitor_spec.specs.Trace.{Asked, Entry, earliest, is_any, clock, moment_of, linked, input, known, taken, queries, answers, outstanding, due, waits, may_ask, last_query, last_answer, forced, begun, has_begun, ended, has_ended, is_short, is_over_at, alone, phase, came, notices_of, query_put, entry_of, notices, notices_taken, notices_waiting}
use Rattle.nut_monitor_spec.specs.Content.{Content, stage_in, watch, content_of}
use Rattle.nut_monitor_spec.specs.machine.Machine.{update, took}
use Rattle.nut_monitor_spec.proofs.Lists.{for_each-update, earliest-moment, earliest-any, earliest-none, begins_now}
use Rattle.nut_monitor_spec.proofs.Apart.{watch_by}
use Rattle.nut_monitor_spec.proofs.Settled.{IsEither, IsTidy, entry_is}

-- an entry that brings nothing
abbrev pub bare : Event → Entry
bare event = record { event = event; answer = None; lost = None; put = λ i. None; notices = [] }

pub not-now : (test : List Entry → Bool) (newest : Entry) (past : List Entry) (entry : Entry) → test (entry ∷ newest ∷ past) ≡ test (newest ∷ past) →
    begins_now test (newest ∷ past) entry ≡ false
not-now test newest past entry same = grind (arith, earliest-none)

-- the exchange on a link after the server took n bytes
stage-took : (line : Line) (asked : Option Asked) (n : ℕ) (waits : List ℕ) → (is_some asked ≡ true → n ≤ length waits) →
    (let e : Exchange = record { stage = stage_in line asked (drop n waits); fault = None } in e)
    ≡ Link.taken n (record { stage = stage_in line asked waits; fault = None })
stage-took line asked n waits within = grind (arith, line, le-leb)

module _ (configuration : Configuration) (newest : Entry) (older : List Entry) where
  abbrev past : List Entry
  past = newest ∷ older

  module _ (event : Event) (time : clock (bare event ∷ past) ≡ clock past) (short : is_short configuration (bare event ∷ past) ≡ is_short configuration past) where
    abbrev entry : Entry
    entry = bare event

    pub quiet-begun : moment_of (begun configuration (entry ∷ past)) ≡ moment_of (begun configuration past)
    quiet-begun = grind (arith, earliest-moment, not-now)

    quiet-over : alone configuration (entry ∷ past) ≡ alone configuration past → is_over_at configuration (entry ∷ past) ≡ is_over_at configuration past
    quiet-over same = grind (arith, quiet-begun)

    pub quiet-ended : alone configuration (entry ∷ past) ≡ alone configuration past → moment_of (ended configuration (entry ∷ past)) ≡ moment_of (ended configuration past)
    quiet-ended same = grind (arith, earliest-moment, not-now, quiet-over)

    pub quiet-shutdown : alone configuration (entry ∷ past) ≡ alone configuration past → (has_ended configuration (entry ∷ past) && not (has_ended configuration past)) ≡ false
    quiet-shutdown same = earliest-any (is_over_at configuration) past entry ∙ not-now (is_over_at configuration) newest older entry (quiet-over same)

    pub quiet-phase : alone configuration (entry ∷ past) ≡ alone configuration past → phase configuration (entry ∷ past) ≡ phase configuration past
    quiet-phase same = grind (arith, quiet-begun, quiet-ended)

  pub none-told : (begun ends : Bool) → ends ≡ false → (if begun then [] else [] ++ [] ++ []) ++ when ends shutdown_told ≡ []
  none-told begun ends none = grind arith

  -- the entry of an event that brings nothing
  pub took-entry : (i n : ℕ) → ((j : ℕ) → query_put configuration past j ≡ None) → entry_of configuration past (LinkTook i n) ≡ bare (LinkTook i n)
  took-entry i n still = grind (arith, entry_is, quiet-phase, none-told, quiet-shutdown)

  notice-entry : ((j : ℕ) → query_put configuration past j ≡ None) → entry_of configuration past NoticeTaken ≡ bare NoticeTaken
  notice-entry still = grind (arith, entry_is, quiet-phase, none-told, quiet-shutdown)

  -- ---- a notice is taken

  pub notice-law : ((j : ℕ) → query_put configuration past j ≡ None) →
      content_of configuration (entry_of configuration past NoticeTaken ∷ past)
      ≡ (let s : Content = content_of configuration past in record s { notices = drop 1 s.notices })
  notice-law still =
      let e = bare NoticeTaken in
      let c : Content = content_of configuration (e ∷ past) in
      let s : Content = content_of configuration past in
      ap (λ x. content_of configuration (x ∷ past)) (notice-entry still)
      ∙ ap (λ m. let r : Content = record c { begun = m } in r) (quiet-begun NoticeTaken refl refl)
      ∙ ap (λ m. let r : Content = record c { begun = s.begun; ended = m } in r) (quiet-ended NoticeTaken refl refl refl)
      ∙ ap (λ ns. let r : Content = record s { notices = ns } in r)
      (ap (drop (notices_taken past + 1)) (append-nil (Trace.notices past)) ∙ sym (drop-drop 1 (notices_taken past) (Trace.notices past)))

  pub notice-still : ((j : ℕ) → query_put configuration past j ≡ None) → (j : ℕ) → query_put configuration (entry_of configuration past NoticeTaken ∷ past) j ≡ None
  notice-still still j =
      rw (notice-entry still, quiet-phase NoticeTaken refl refl refl, still j)

  -- ---- the server took bytes

  pub took-still : (i n : ℕ) → ((j : ℕ) → query_put configuration past j ≡ None) → (j : ℕ) → query_put configuration (entry_of configuration past (LinkTook i n) ∷ past) j ≡ None
  took-still i n still j =
      rw (took-entry i n still, quiet-phase (LinkTook i n) refl refl refl, still j)

  -- ---- the link on which bytes were taken
  took-own : (i n : ℕ) → (linked i past ≡ true → n ≤ length (waits configuration i past)) →
      watch configuration (bare (LinkTook i n) ∷ past) i ≡ took n (watch configuration past i)
  took-own i n within = grind (arith, eq-eqb, watch_by, drop-drop, stage-took)

  took-other : (i n j : ℕ) → eqb i j ≡ false → watch configuration (bare (LinkTook i n) ∷ past) j ≡ watch configuration past j
  took-other i n j differ = grind (arith, watch_by)

  pub took-law : (i n : ℕ) → ((j : ℕ) → query_put configuration past j ≡ None) → (linked i past ≡ true → n ≤ length (waits configuration i past)) →
      content_of configuration (entry_of configuration past (LinkTook i n) ∷ past)
      ≡ (let s : Content = content_of configuration past in record s { watches = update i (took n) s.watches })
  took-law i n still within =
      let e = bare (LinkTook i n) in
      let c : Content = content_of configuration (e ∷ past) in
      let s : Content = content_of configuration past in
      ap (λ x. content_of configuration (x ∷ past)) (took-entry i n still)
      ∙ ap (λ m. let r : Content = record c { begun = m } in r) (quiet-begun (LinkTook i n) refl refl)
      ∙ ap (λ m. let r : Content = record c { begun = s.begun; ended = m } in r) (quiet-ended (LinkTook i n) refl refl refl)
      ∙ ap (λ ns. let r : Content = record c { begun = s.begun; ended = s.ended; notices = ns } in r) (ap (drop (notices_taken past)) (append-nil (Trace.notices past)))
      ∙ ap (λ ws. let r : Content = record s { watches = ws } in r)
      (for_each-update i (watch configuration past) (watch configuration (e ∷ past)) (took n) configuration.lines (took-other i n) (took-own i n within))

  -- every link stays tidy
  pub took-tidy : (i n j : ℕ) → ((k : ℕ) → query_put configuration past k ≡ None) → (linked i past ≡ true → n ≤ length (waits configuration i past)) →
      IsTidy configuration j past → IsTidy configuration j (entry_of configuration past (LinkTook i n) ∷ past)
  took-tidy i n j still within tidy =
      subst (λ x. IsTidy configuration j (x ∷ past)) (sym (took-entry i n still)) (by (eqb i j) refl)
    where
      by : (b : Bool) → eqb i j ≡ b → IsTidy configuration j (bare (LinkTook i n) ∷ past)
      by false differ there =
          let same : taken j (bare (LinkTook i n) ∷ past) ≡ taken j past = ap (λ b. if b then taken j past + n else taken j past) differ in
          subst (λ m. IsEither (line_in configuration.lines j) (queries j past) (answers j past) m) (sym same) (tidy there)
      by true is there =
          let e : i ≡ j = eqb-true i j is in
          let less : n ≤ length (waits configuration j past) = subst (λ k. n ≤ length (waits configuration k past)) e (within (ap (λ k. linked k past) e ∙ there)) in
          let bytes = due configuration j past in
          let all : length (waits configuration j past) ≡ length (drop (taken j past) bytes) = ap (λ b. length (if b then drop (taken j past) bytes else [])) there in
          let more : taken j (bare (LinkTook i n) ∷ past) ≡ taken j past + n = ap (λ b. if b then taken j past + n else taken j past) is in
          elim (tidy there) [
            | inl idle ↦ inl (record { answered = idle.answered; turn = idle.turn; taken = omega (arith, more, idle.taken, less, all, length-drop (taken j past) bytes) })
            | inr asked ↦ inr (record {
              asked = asked.asked;
              older = asked.older;
              queries = asked.queries;
              answered = asked.answered;
              turn = asked.turn;
              sent = omega (arith, more, asked.sent);
              taken = omega (arith, more, asked.taken, less, all, length-drop (taken j past) bytes);
            })
          ]

  pub notice-tidy : (j : ℕ) → ((k : ℕ) → query_put configuration past k ≡ None) → IsTidy configuration j past → IsTidy configuration j (entry_of configuration past NoticeTaken ∷ past)
  notice-tidy j still tidy = grind (arith, IsTidy, notice-entry)

  -- at most as many notices were taken as were given
  pub took-waiting : (i n : ℕ) → ((k : ℕ) → query_put configuration past k ≡ None) → notices_taken past ≤ length (Trace.notices past) →
      notices_taken (entry_of configuration past (LinkTook i n) ∷ past) ≤ length (Trace.notices (entry_of configuration past (LinkTook i n) ∷ past))
  took-waiting i n still less = grind (arith, took-entry, append-nil)

  pub notice-waiting : ((k : ℕ) → query_put configuration past k ≡ None) → 0 < length (notices_waiting past) →
      notices_taken (entry_of configuration past NoticeTaken ∷ past) ≤ length (Trace.notices (entry_of configuration past NoticeTaken ∷ past))
  notice-waiting still some = grind (arith, notice-entry, length-drop, append-nil)
