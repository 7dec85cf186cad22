-- The end of an event: what it leaves is what the machine's end of an event makes of the content before it.
use Rattle.std.proofs.Common.{arith}
use Rattle.std.proofs.Common.{◌≡◌, ℕ, ◌≤◌, Bool, true, ◌&&◌, ◌⊎◌, List, [], ◌∷◌, ◌++◌, length, map, drop, refl, sym, ◌∙◌, ap, Option, Some, None, is_some, is_none, if◌then◌else◌, append-nil, append_assoc}
use Rattle.std.proofs.Math.Seq.{drop-append_seam}
use Rattle.std.proofs.lemmas.Bool.{and_parts}
use Rattle.std.proofs.lemmas.List.{drop-append-le}
use Rattle.nut_words.specs.Lines.{rest}
use Rattle.nut_monitor_spec.specs.declared.Notice.{Notice}
use Rattle.nut_monitor_spec.specs.declared.Query.{Query}
use Rattle.nut_monitor_spec.specs.Configuration.{Line, Configuration, line_in}
use Rattle.nut_monitor_spec.specs.Event.{Event}
use Rattle.nut_monitor_spec.specs.Decision.{shutdown_told, when, next_query, is_over_by}
use Rattle.nut_monitor_spec.specs.Trace
use Rattle.nut_monitor_spec.specs.Trace.{joined_queries, alone, Asked, Answer, Entry, clock, moment_of, linked, queries, answers, outstanding, due, waits, taken, input, known, begun, has_begun, ended, is_short, is_over_at, phase, may_ask, last_query, last_answer, last_in, forced, came, notices_of, notices_of_answer, notices_of_loss, notices_of_moment, query_put, entry_of, notices, notices_taken, notices_waiting, taken_notice, number, asked_in, has_ended, is_any, since_linked}
use Rattle.nut_monitor_spec.specs.Content.{Watch, Content, stage_in, watch, for_each_line, content_of}
use Rattle.nut_monitor_spec.specs.machine.Machine.{shutdown_judged, phase_moved, queries_put, settled, ends, asked_next, put, may_put}
use Rattle.nut_monitor_spec.proofs.Newest.{marked, short-same, alone-same, forced-same, known-same}
use Rattle.nut_monitor_spec.proofs.Lists.{for_each-same, supply-law, alone-law, asked-law, begins_now, earliest-moment, earliest-any, moment-same, number-head}

-- the queries of these answers
abbrev pub asked_by : List Answer → List Asked
asked_by answers = map (λ a. a.asked) answers

-- No query is outstanding: each was answered in turn, and all their bytes are taken.
pub record IsIdleBy (line : Line) (asks : List Asked) (said : List Answer) (count : ℕ) : Type 0 where
  pub answered : length asks ≡ length said
  pub turn : asks ≡ asked_by said
  pub taken : count ≡ length (joined_queries line asks)

-- One query is outstanding; all older ones were taken whole and answered.
pub record IsAskedBy (line : Line) (asks : List Asked) (said : List Answer) (count : ℕ) : Type 0 where
  pub asked : Asked
  pub older : List Asked
  pub queries : asks ≡ asked ∷ older
  pub answered : length older ≡ length said
  pub turn : older ≡ asked_by said
  pub sent : length (joined_queries line older) ≤ count
  pub taken : count ≤ length (joined_queries line asks)

abbrev pub IsEither : Line → List Asked → List Answer → ℕ → Type 0
IsEither line asks said count = IsIdleBy line asks said count ⊎ IsAskedBy line asks said count

-- so it is on link i
abbrev pub IsIdle : Configuration → ℕ → List Entry → Type 0
IsIdle configuration i past = IsIdleBy (line_in configuration.lines i) (queries i past) (answers i past) (taken i past)

abbrev pub IsAsked : Configuration → ℕ → List Entry → Type 0
IsAsked configuration i past = IsAskedBy (line_in configuration.lines i) (queries i past) (answers i past) (taken i past)

abbrev pub IsTidy : Configuration → ℕ → List Entry → Type 0
IsTidy configuration i past = linked i past ≡ true → IsIdle configuration i past ⊎ IsAsked configuration i past

-- the notices of an event but SHUTDOWN
abbrev pub line_notices : Configuration → List Entry → Entry → List Notice
line_notices configuration past entry =
    if has_begun configuration past then []
    else notices_of_answer configuration past (clock (entry ∷ past)) entry.answer
    ++ notices_of_loss past entry.answer entry.lost
    ++ notices_of_moment configuration past (clock (entry ∷ past)) entry.event

-- an event with what it told, before queries are put at its end
abbrev pub told_entry : Configuration → List Entry → Event → Entry
told_entry configuration past event = record (came configuration past event) { notices = notices_of configuration past (came configuration past event) }

-- the content of a monitor to which an event came, before that ends
abbrev pub unsettled : Configuration → List Entry → Event → Content
unsettled configuration past event = record {
  configuration = configuration;
  clock = clock (told_entry configuration past event ∷ past);
  begun = moment_of (begun configuration past);
  ended = moment_of (ended configuration past);
  notices = notices_waiting past ++ line_notices configuration past (came configuration past event);
  watches = for_each_line (watch configuration (told_entry configuration past event ∷ past)) configuration.lines;
}

-- ---- the shutdown is judged

judged-law : (configuration : Configuration) (past : List Entry) (event : Event) →
    shutdown_judged (unsettled configuration past event)
    ≡ record (unsettled configuration past event) { begun = moment_of (begun configuration (told_entry configuration past event ∷ past)) }
judged-law configuration past event = grind (arith, begins_now, supply-law, earliest-moment)

-- ---- the phase moves

-- notices given and queries put at an event don't move the shutdown
module _ (configuration : Configuration) (past : List Entry) (entry : Entry) (queries : ℕ → Option Query) (told : List Notice) where
  pub begun-same : moment_of (begun configuration (marked entry queries told ∷ past)) ≡ moment_of (begun configuration (entry ∷ past))
  begun-same = moment-same (is_short configuration) past (marked entry queries told) entry (short-same entry queries told past configuration) refl

  pub over-same : is_over_at configuration (marked entry queries told ∷ past) ≡ is_over_at configuration (entry ∷ past)
  over-same = grind (arith, alone-same, begun-same)

  pub ended-same : moment_of (ended configuration (marked entry queries told ∷ past)) ≡ moment_of (ended configuration (entry ∷ past))
  ended-same = moment-same (is_over_at configuration) past (marked entry queries told) entry over-same refl

ended-if : (b : Bool) (s : Content) (m : Option ℕ) (notice : Notice) →
    (if b then record s { ended = m; notices = s.notices ++ notice ∷ [] } else s)
    ≡ record s { ended = if b then m else s.ended; notices = s.notices ++ when b notice }
ended-if b s m notice = grind (arith, append-nil)

abbrev judged : Configuration → List Entry → Event → Content
judged configuration past event =
    record (unsettled configuration past event) { begun = moment_of (begun configuration (told_entry configuration past event ∷ past)) }

abbrev moved : Configuration → List Entry → Event → Content
moved configuration past event = record (judged configuration past event) {
  ended = moment_of (ended configuration (told_entry configuration past event ∷ past));
  notices = notices_waiting past ++ notices_of configuration past (came configuration past event);
}

pub moved-law : (configuration : Configuration) (past : List Entry) (event : Event) →
    phase_moved (judged configuration past event) ≡ moved configuration past event
moved-law configuration past event =
    let s = judged configuration past event in
    let entry = told_entry configuration past event in
    let b = begins_now (is_over_at configuration) past entry in
    let test : ends s ≡ b =
    ap (λ alone. is_none (moment_of (ended configuration past)) && is_over_by configuration (clock (entry ∷ past)) alone (moment_of (begun configuration (entry ∷ past))))
    (alone-law configuration.lines (watch configuration (entry ∷ past))) in
    let told = line_notices configuration past (came configuration past event) in
    let now : b ≡ begins_now (is_over_at configuration) past (came configuration past event) =
    ap (λ c. is_none (moment_of (ended configuration past)) && c) (over-same configuration past (came configuration past event) (λ i. None) (notices_of configuration past (came configuration past event))) in
    rw (
      ended-if (ends s) s (Some s.clock) shutdown_told,
      test,
      ← earliest-moment (is_over_at configuration) past entry,
      append_assoc (notices_waiting past) told (when b shutdown_told),
      now,
      ← earliest-any (is_over_at configuration) past (came configuration past event),
    )

-- ---- the queries are put

-- whether a query may be put, read from the link of the watch
may-law : (configuration : Configuration) (past : List Entry) (i : ℕ) → may_put (watch configuration past i).link ≡ may_ask i past
may-law configuration past i = grind arith

-- a watch whose link has these queries
abbrev watch_with : Configuration → List Entry → ℕ → List Asked → Watch
watch_with configuration past i asked = record {
  link =
      if linked i past
      then Some (record {
        rest = rest (input i past);
        exchange = record {
          stage =
              stage_in (line_in configuration.lines i) (number (length (answers i past)) asked)
              (if linked i past then drop (taken i past) (joined_queries (line_in configuration.lines i) asked) else []);
          fault = None;
        };
      })
      else None;
  last = last_in asked;
  answer = last_answer i past;
  known = known i past;
}

-- a query is put if none is outstanding
pub put-law : (configuration : Configuration) (past : List Entry) (i moment event : ℕ) (query : Option Query) →
    IsTidy configuration i past → (is_some query ≡ true → may_ask i past ≡ true) →
    watch_with configuration past i (asked_in moment event query (queries i past))
    ≡ put (line_in configuration.lines i) moment query (watch configuration past i)
put-law configuration past i moment event query tidy may = grind (arith, and_parts, number-head, drop-append_seam)

pub may-of_some : (may : Bool) (query : Option Query) → is_some (if may then query else None) ≡ true → may ≡ true
may-of_some may query is = grind arith

pub phase-same : (configuration : Configuration) (past : List Entry) (entry : Entry) (queries : ℕ → Option Query) (told : List Notice) →
    phase configuration (marked entry queries told ∷ past) ≡ phase configuration (entry ∷ past)
phase-same configuration past entry queries told = grind (arith, marked, begun-same, ended-same)

-- the entry of an event is what `came` gives, with queries put and notices given
pub entry_is : (configuration : Configuration) (past : List Entry) (event : Event) →
    entry_of configuration past event
    ≡ marked (came configuration past event) (query_put configuration (came configuration past event ∷ past)) (notices_of configuration past (came configuration past event))
unfolding entry_of
entry_is configuration past event = refl

-- a watch at the end of an event
watch-law : (configuration : Configuration) (past : List Entry) (event : Event) (i : ℕ) → IsTidy configuration i (told_entry configuration past event ∷ past) →
    watch configuration (marked (came configuration past event) (query_put configuration (came configuration past event ∷ past)) (notices_of configuration past (came configuration past event)) ∷ past) i
    ≡ asked_next configuration (clock (told_entry configuration past event ∷ past)) (phase configuration (told_entry configuration past event ∷ past))
    (line_in configuration.lines i) (watch configuration (told_entry configuration past event ∷ past) i)
watch-law configuration past event i tidy =
    let entry = came configuration past event in
    let told = told_entry configuration past event in
    let notices = notices_of configuration past entry in
    let line = line_in configuration.lines i in
    let time = clock (told ∷ past) in
    let w = watch configuration (told ∷ past) i in
    let query = query_put configuration (entry ∷ past) i in
    let full = marked entry (query_put configuration (entry ∷ past)) notices in
    let same : query ≡ next_query configuration line time (phase configuration (told ∷ past)) (may_put w.link) w.last w.known.forced =
    rw (
      ← phase-same configuration past entry (λ j. None) notices,
      ← may-law configuration (told ∷ past) i,
      ← forced-same entry (λ j. None) notices past i,
    ) in
    rw (
      known-same entry (query_put configuration (entry ∷ past)) (λ j. None) notices past i,
      put-law configuration (told ∷ past) i time (length (told ∷ past)) query tidy (λ is. may-of_some (may_ask i (entry ∷ past)) _ is),
      same,
    )

-- more notices, appended to those of which some wait
waiting-append : (n : ℕ) (before more : List Notice) → n ≤ length before → drop n (before ++ more) ≡ drop n before ++ more
waiting-append n before more less = drop-append-le n before more less

-- The end of an event: the content after it is what `settled` makes of the content before the end.
pub settled-law : (configuration : Configuration) (past : List Entry) (event : Event) →
    ((i : ℕ) → IsTidy configuration i (told_entry configuration past event ∷ past)) →
    notices_taken past ≤ length (notices past) → taken_notice event (notices_taken past) ≡ notices_taken past →
    content_of configuration (entry_of configuration past event ∷ past) ≡ settled (unsettled configuration past event)
settled-law configuration past event tidy less none =
    let entry = came configuration past event in
    let told = told_entry configuration past event in
    let queries = query_put configuration (entry ∷ past) in
    let notices = notices_of configuration past entry in
    let full = marked entry queries notices in
    let m = moved configuration past event in
    let watches : for_each_line (watch configuration (full ∷ past)) configuration.lines ≡ (queries_put m).watches =
    rw (
      for_each-same (λ i. asked_next configuration (clock (told ∷ past)) (phase configuration (told ∷ past)) (line_in configuration.lines i) (watch configuration (told ∷ past) i)) (watch configuration (full ∷ past)) configuration.lines (λ i within. watch-law configuration past event i (tidy i)),
      ← asked-law configuration (clock (told ∷ past)) (phase configuration (told ∷ past)) configuration.lines (watch configuration (told ∷ past)),
    ) in
    let waiting : notices_waiting (full ∷ past) ≡ m.notices =
    ap (λ n. drop n (Trace.notices past ++ notices)) none ∙ waiting-append (notices_taken past) (Trace.notices past) notices less in
    ap (λ e. content_of configuration (e ∷ past)) (entry_is configuration past event)
    ∙ ap (λ b. record (content_of configuration (full ∷ past)) { begun = b }) (begun-same configuration past entry queries notices ∙ sym (begun-same configuration past entry (λ i. None) notices))
    ∙ ap (λ b. record (content_of configuration (full ∷ past)) { begun = m.begun; ended = b }) (ended-same configuration past entry queries notices ∙ sym (ended-same configuration past entry (λ i. None) notices))
    ∙ ap (λ ns. record (content_of configuration (full ∷ past)) { begun = m.begun; ended = m.ended; notices = ns }) waiting
    ∙ ap (λ ws. record m { watches = ws }) watches
    ∙ sym (ap (λ s. queries_put (phase_moved s)) (judged-law configuration past event) ∙ ap queries_put (moved-law configuration past event))
