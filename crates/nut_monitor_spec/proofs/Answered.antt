-- What is known of a UPS after an event of its link.
use Rattle.std.proofs.Common.{arith}
use Rattle.std.proofs.Common.{◌≡◌, ℕ, Bool, true, false, ◌&&◌, ◌||◌, eqb, List, [], ◌∷◌, ◌++◌, refl, ◌∙◌, ap, Option, Some, None, is_some, is_none, if◌then◌else◌}
use Rattle.std.specs.List.{list_any}
use Rattle.std.specs.Option.{option_map}
use Rattle.std.proofs.lemmas.Bool.{eq-eqb, and_parts}
use Rattle.std.proofs.lemmas.List.Folds.{list_any-append}
use Rattle.nut_conf.specs.declared.notice.Notice.TheVariants as kinds
use Rattle.nut_link.specs.declared.outcome.Outcome.{Outcome}
use Rattle.nut_monitor_spec.specs.declared.Communication.TheVariants.{Bad}
use Rattle.nut_monitor_spec.specs.declared.Known.{Known}
use Rattle.nut_monitor_spec.specs.declared.Notice.{Notice}
use Rattle.nut_monitor_spec.specs.declared.Query.{Query}
use Rattle.nut_monitor_spec.specs.Configuration.{Configuration}
use Rattle.nut_monitor_spec.specs.Event.{Event}
use Rattle.nut_monitor_spec.specs.Query.{status_in, is_forced, logins_in, flags_of}
use Rattle.nut_monitor_spec.specs.Decision.{told, when, shutdown_told, communication_then, tells_replace, status_notices_in, answer_notices}
use Rattle.nut_monitor_spec.specs.Trace.{Asked, Answer, Entry, is_any, is_link, clock, moment_of, gives_status, at_status, are_calm, status_of_answer, newest_answer, status, polled, calm, communication, told_at, is_replace, is_silence, forced, logins, known, begun, has_begun}
use Rattle.nut_monitor_spec.specs.machine.Machine.{newer, flags_then, polled_then, calm_then, replace_then, known_answered}
use Rattle.nut_monitor_spec.proofs.Newest.{status-step, polled-step, calm-step, forced-step, logins-step, told-step}

-- ---- tests of notices

pub or-false : (b : Bool) → (b || false) ≡ b
or-false b = grind arith

any-when : (test : Notice → Bool) (b : Bool) (notice : Notice) → list_any test (when b notice) ≡ (b && test notice)
any-when test b notice = grind arith

pub when-none : (test : Notice → Bool) (b : Bool) (notice : Notice) → test notice ≡ false → list_any test (when b notice) ≡ false
when-none test b notice is = grind arith

pub skip-first : (test : Notice → Bool) (xs ys : List Notice) → list_any test xs ≡ false → list_any test (xs ++ ys) ≡ list_any test ys
skip-first test xs ys none = list_any-append test xs ys ∙ ap (λ b. b || list_any test ys) none

pub skip-last : (test : Notice → Bool) (xs ys : List Notice) → list_any test ys ≡ false → list_any test (xs ++ ys) ≡ list_any test xs
skip-last test xs ys none = list_any-append test xs ys ∙ ap (λ b. list_any test xs || b) none ∙ or-false (list_any test xs)

-- if the first five of six notices fail the test, only the sixth may pass it
six : (test : Notice → Bool) (a b c d e f : Bool) (k l m n o p : Notice) → test k ≡ false → test l ≡ false → test m ≡ false → test n ≡ false → test o ≡ false →
    list_any test (when a k ++ when b l ++ when c m ++ when d n ++ when e o ++ when f p) ≡ (f && test p)
six test a b c d e f k l m n o p k' l' m' n' o' = grind (arith, skip-last, when-none, skip-first, any-when)

pub false-either : (b : Bool) → (if b then false else false) ≡ false
false-either b = grind arith

pub and-false : (b : Bool) → (b && false) ≡ false
and-false b = grind arith

module _ (configuration : Configuration) (time i j : ℕ) (known : Known) where
  -- whether an answer tells that the battery needs to be replaced
  abbrev pub replaces : Option (List (List ℕ)) → Bool
  replaces None = false
  replaces (Some words) = tells_replace configuration time known.replace_told known.flags (flags_of words)

  -- for a test that no other notice of an answer passes
  module _ (test : Notice → Bool) (commok : test (told kinds.Commok i) ≡ false) (online : test (told kinds.Online i) ≡ false) (onbatt : test (told kinds.Onbatt i) ≡ false)
      (lowbatt : test (told kinds.Lowbatt i) ≡ false) (fsd : test (told kinds.Fsd i) ≡ false) (commbad : test (told kinds.Commbad i) ≡ false) where
    in-any : (words : Option (List (List ℕ))) → list_any test (status_notices_in configuration time i known words) ≡ (replaces words && test (told kinds.Replbatt i))
    in-any words = grind (arith, six)

    answer-any : (query : Query) (outcome : Outcome) →
        list_any test (answer_notices configuration time i known query outcome) ≡ (replaces (status_in query outcome) && test (told kinds.Replbatt i))
    answer-any query outcome = grind (arith, skip-last, when-none, in-any)

  pub answer-replace : (query : Query) (outcome : Outcome) →
      list_any (is_replace j) (answer_notices configuration time i known query outcome) ≡ (replaces (status_in query outcome) && eqb i j)
  answer-replace = answer-any (is_replace j) refl refl refl refl refl refl

  pub answer-silence : (query : Query) (outcome : Outcome) → list_any (is_silence j) (answer_notices configuration time i known query outcome) ≡ false
  answer-silence query outcome = answer-any (is_silence j) refl refl refl refl refl refl query outcome ∙ and-false (replaces (status_in query outcome))

-- the notices of an event: those of an answer, of a loss, of a moment, and SHUTDOWN
abbrev pub of_event : Bool → List Notice → List Notice → List Notice → Bool → List Notice
of_event begun answer loss moment ends = (if begun then [] else answer ++ loss ++ moment) ++ when ends shutdown_told

pub event-any : (test : Notice → Bool) → test shutdown_told ≡ false → (begun ends : Bool) (answer loss moment : List Notice) →
    list_any test (of_event begun answer loss moment ends)
    ≡ (if begun then false else ((list_any test answer || list_any test loss) || list_any test moment))
event-any test last begun ends answer loss moment = grind (arith, when-none, skip-last, list_any-append)

-- ---- an event

gives-some : (i : ℕ) (answer : Option Answer) → gives_status i answer ≡ true → is_some (status_of_answer answer) ≡ true
gives-some i answer is = grind (arith, and_parts)

some-step : (i : ℕ) (entry : Entry) (past front : List Entry) (b : Bool) → gives_status i entry.answer ≡ b → is_any front ≡ is_some (status_of_answer (newest_answer front)) →
    is_any (if b then entry ∷ past else front) ≡ is_some (status_of_answer (newest_answer (if b then entry ∷ past else front)))
some-step i entry past front b is before = grind (arith, gives-some)

status-some : (i : ℕ) (past : List Entry) → is_any (at_status i past) ≡ is_some (status i past)
status-some i [] = refl
status-some i (entry ∷ past) = some-step i entry past (at_status i past) (gives_status i entry.answer) refl (status-some i past)

module _ (configuration : Configuration) (past : List Entry) (i : ℕ) (event : Event) (put : ℕ → Option Query) where
  abbrev pub entry_by : Option Answer → Option ℕ → List Notice → Entry
  entry_by answer lost notices = record { event = event; answer = answer; lost = lost; put = put; notices = notices }

  told-kept : (test : Notice → Bool) (entry : Entry) → list_any test entry.notices ≡ false → told_at test (entry ∷ past) ≡ told_at test past
  told-kept test entry none = told-step test entry past ∙ ap (λ b. if b then Some (clock (entry ∷ past)) else told_at test past) none

  -- an event without an answer
  pub known-none : (lost : Option ℕ) (notices : List Notice) → list_any (is_replace i) notices ≡ false → list_any (is_silence i) notices ≡ false →
      known i (entry_by None lost notices ∷ past) ≡ record (known i past) { communication = if is_link i lost then Bad else communication i past }
  known-none lost notices replace silence = grind (arith, told-kept)

  -- an event with an answer
  flags-law : (words before : Option (List (List ℕ))) → option_map flags_of (if true && is_some words then words else before) ≡ flags_then words (option_map flags_of before)
  flags-law words before = grind arith

  polled-law : (words : Option (List (List ℕ))) (time before : ℕ) → (if true && is_some words then time else before) ≡ polled_then words time before
  polled-law words time before = grind arith

  calm-law : (words before : Option (List (List ℕ))) (time at' : ℕ) →
      (if (true && is_some words) && (if is_some before then are_calm words else true) then time else at') ≡ calm_then words time (option_map flags_of before) at'
  calm-law words before time at' = grind arith

  forced-law : (is before : Bool) → (if true && is then true else before) ≡ (is || before)
  forced-law is before = grind arith

  logins-law : (logins before : Option ℕ) → (if true && is_some logins then logins else before) ≡ newer logins before
  logins-law logins before = grind arith

  replace-law : (k : Known) (time : ℕ) (front : List Entry) (words : Option (List (List ℕ))) →
      (if (if is_any front then false else (replaces configuration time i i k words && true)) then Some time else k.replace_told)
      ≡ (if is_none (moment_of front) then replace_then words configuration time k.flags k.replace_told else k.replace_told)
  replace-law k time front words = grind arith

  pub known-some : (asked : Asked) (outcome : Outcome) (lost : Option ℕ) (notices : List Notice) →
      list_any (is_replace i) notices ≡ (if has_begun configuration past then false
      else (replaces configuration (clock (entry_by None lost notices ∷ past)) i i (known i past) (status_in asked.query outcome) && eqb i i)) →
      list_any (is_silence i) notices ≡ false →
      known i (entry_by (Some (record { link = i; asked = asked; outcome = outcome })) lost notices ∷ past)
      ≡ record (known_answered configuration (clock (entry_by None lost notices ∷ past)) (is_none (moment_of (begun configuration past))) asked.query outcome (known i past))
      { communication = if is_link i lost then Bad else communication_then asked.query outcome (communication i past) }
  known-some asked outcome lost notices replace silence =
      let x = entry_by (Some (record { link = i; asked = asked; outcome = outcome })) lost notices in
      let time = clock (x ∷ past) in
      let words = status_in asked.query outcome in
      let k = known i past in
      let self : eqb i i ≡ true = eq-eqb i i refl in
      let watching = is_none (moment_of (begun configuration past)) in
      let flags : option_map flags_of (status i (x ∷ past)) ≡ flags_then words k.flags =
      rw (status-step i x past, self, flags-law words (status i past)) in
      let polled' : polled i (x ∷ past) ≡ polled_then words time k.polled =
      polled-step i x past ∙ ap (λ b. if b && is_some words then time else polled i past) self ∙ polled-law words time (polled i past) in
      let calm' : calm i (x ∷ past) ≡ calm_then words time k.flags k.calm =
      rw (calm-step i x past, self, status-some i past, calm-law words (status i past) time (calm i past)) in
      let communication' : communication i (x ∷ past) ≡ (if is_link i lost then Bad else communication_then asked.query outcome (communication i past)) =
      ap (λ b. if is_link i lost then Bad else (if b then communication_then asked.query outcome (communication i past) else communication i past)) self in
      let replace' : told_at (is_replace i) (x ∷ past) ≡ (if watching then replace_then words configuration time k.flags k.replace_told else k.replace_told) =
      rw (told-step (is_replace i) x past, replace, self, replace-law k time (begun configuration past) words) in
      let forced' : forced i (x ∷ past) ≡ (is_forced asked.query outcome || k.forced) =
      forced-step i x past ∙ ap (λ b. if b && is_forced asked.query outcome then true else forced i past) self ∙ forced-law (is_forced asked.query outcome) (forced i past) in
      let logins' : logins i (x ∷ past) ≡ newer (logins_in asked.query outcome) k.logins =
      rw (logins-step i x past, self, logins-law (logins_in asked.query outcome) (logins i past)) in
      let n : Known = known i (x ∷ past) in
      let a : Known = known_answered configuration time watching asked.query outcome k in
      rw (flags, polled', calm', communication', replace', told-kept (is_silence i) x silence, forced', logins')
