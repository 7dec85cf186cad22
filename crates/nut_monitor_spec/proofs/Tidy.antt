-- At most one query is outstanding on a link, and it is answered only once all its bytes are taken.
use Rattle.std.proofs.Common.{◌≡◌, ℕ, true, false, ◌&&◌, ◌⊎◌, List, ◌∷◌, length, refl, ◌∙◌, ap, arith, Option, Some, None, is_some, is_none, length-append, length-drop}
use Rattle.std.proofs.lemmas.Bool.{eq-eqb, eqb-true, and_parts}
use Rattle.nut_words.specs.Lines.{LineText}
use Rattle.nut_monitor_spec.specs.declared.Query.{Query}
use Rattle.nut_monitor_spec.specs.Configuration.{Configuration, line_in}
use Rattle.nut_monitor_spec.specs.Event.{Event, Linked, LinkBytes}
use Rattle.nut_monitor_spec.specs.Decision.{next_query}
use Rattle.nut_monitor_spec.specs.Trace.{Asked, Entry, clock, linked, queries, answers, asked_in, outstanding, may_ask, last_query, taken, number, brought, came, notices_of, phase, forced, query_put}
use Rattle.nut_monitor_spec.proofs.Lists.{number-none, number-head}
use Rattle.nut_monitor_spec.proofs.Newest.{marked, forced-same}
use Rattle.nut_monitor_spec.proofs.Answered.{and-false}
use Rattle.nut_monitor_spec.proofs.Apart.{IsApart, other-linked, other-queries, other-said}
use Rattle.nut_monitor_spec.proofs.Settled.{IsEither, IsTidy, IsIdle, IsAsked, asked_by, told_entry, phase-same, may-of_some}
use Rattle.nut_monitor_spec.proofs.Links.{IsAnswerOf, answer-cases}

-- an event that changes neither the queries, the answers nor the bytes taken leaves a link tidy
pub tidy-same : (configuration : Configuration) (i : ℕ) (entry : Entry) (past : List Entry) → linked i (entry ∷ past) ≡ linked i past → queries i (entry ∷ past) ≡ queries i past →
    answers i (entry ∷ past) ≡ answers i past → taken i (entry ∷ past) ≡ taken i past → IsTidy configuration i past → IsTidy configuration i (entry ∷ past)
tidy-same configuration i entry past l q a t tidy there = grind (arith, IsEither)

pub tidy-apart : (configuration : Configuration) (i j : ℕ) (entry : Entry) (past : List Entry) → IsApart i j entry past → IsTidy configuration j past → IsTidy configuration j (entry ∷ past)
tidy-apart configuration i j entry past apart tidy = grind (arith, tidy-same, other-linked, other-queries, other-said)

pub tidy-made : (configuration : Configuration) (past : List Entry) (i : ℕ) → IsTidy configuration i (told_entry configuration past (Linked i) ∷ past)
tidy-made configuration past i there = grind (arith, eq-eqb, asked_by)

-- a link that was lost is tidy
pub tidy-lost : (configuration : Configuration) (i : ℕ) (entry : Entry) (past : List Entry) → entry.lost ≡ Some i → IsTidy configuration i (entry ∷ past)
tidy-lost configuration i entry past lost there = grind (arith, eq-eqb)

-- a link that heard a piece is tidy
module _ (configuration : Configuration) (past : List Entry) (i : ℕ) (piece : List ℕ) (there : linked i past ≡ true)
    (tidy : IsIdle configuration i past ⊎ IsAsked configuration i past) where
  abbrev texts : List LineText
  texts = brought i past piece

  abbrev entry : Entry
  entry = told_entry configuration past (LinkBytes i piece)

  by-answer : IsAnswerOf configuration past i entry.answer → IsIdle configuration i (entry ∷ past) ⊎ IsAsked configuration i (entry ∷ past)
  by-answer is = grind (arith, IsEither, eq-eqb, eqb-true, IsAsked, number-head, number-none, asked_by, length-drop)

  pub tidy-heard : IsTidy configuration i (entry ∷ past)
  tidy-heard still = by-answer (answer-cases configuration past i texts)

-- ---- the end of an event

module _ (configuration : Configuration) (past : List Entry) (event : Event) (i : ℕ) where
  abbrev before : List Entry
  before = told_entry configuration past event ∷ past

  abbrev queries_now : ℕ → Option Query
  queries_now = query_put configuration (came configuration past event ∷ past)

  abbrev full : List Entry
  full = marked (came configuration past event) queries_now (notices_of configuration past (came configuration past event)) ∷ past

  abbrev asked_now : Option Query → List Asked
  asked_now query = asked_in (clock before) (length before) query (queries i before)

  abbrev IsTidyBy : Option Query → Type 0
  IsTidyBy query = IsEither (line_in configuration.lines i) (asked_now query) (answers i before) (taken i before)

  idle-where : IsIdle configuration i before ⊎ IsAsked configuration i before → may_ask i before ≡ true → IsIdle configuration i before
  idle-where is may = grind (arith, number-head, and_parts)

  put-tidy : (query : Option Query) → (is_some query ≡ true → may_ask i before ≡ true) → IsIdle configuration i before ⊎ IsAsked configuration i before → IsTidyBy query
  put-tidy query may tidy = grind (arith, idle-where, length-append)

  may-now : is_some (queries_now i) ≡ true → may_ask i before ≡ true
  may-now is = may-of_some (may_ask i before) _ is

  pub tidy-settled : IsTidy configuration i before → IsTidy configuration i full
  tidy-settled tidy there = put-tidy (queries_now i) may-now (tidy there)

  -- then no further query may be put
  still-by : (query : Option Query) → queries_now i ≡ query → IsTidy configuration i before → query_put configuration full i ≡ None
  still-by None none tidy =
      let line = line_in configuration.lines i in
      let time = clock before in
      let entry = came configuration past event in
      let asked : queries i full ≡ queries i before = ap asked_now none in
      rw (
        phase-same configuration past entry queries_now (notices_of configuration past entry),
        asked,
        forced-same entry queries_now (notices_of configuration past entry) past i,
        none,
      )
  still-by (Some query) some tidy =
      let may : may_ask i before ≡ true = may-now (ap is_some some) in
      let there : linked i before ≡ true = (and_parts (linked i before) (is_none (outstanding i before)) may).0 in
      let idle = idle-where (tidy there) may in
      let asked : Asked = record { query = query; moment = clock before; event = length before } in
      let out : outstanding i full ≡ Some asked =
      ap (λ q. number (length (answers i before)) (asked_now q)) some ∙ number-head (length (answers i before)) asked (queries i before) idle.answered in
      let no' : may_ask i full ≡ false = ap (λ o. linked i full && is_none o) out ∙ and-false (linked i full) in
      let line = line_in configuration.lines i in
      ap (λ m. next_query configuration line (clock full) (phase configuration full) m (last_query i full) (forced i full)) no'

  pub still-settled : IsTidy configuration i before → query_put configuration full i ≡ None
  still-settled tidy = still-by (queries_now i) refl tidy
