-- Which queries are put, and how answers follow them.
use Rattle.std.proofs.Common.{arith}
use Rattle.std.proofs.Common.{◌≡◌, ℕ, Bool, true, false, ◌⊎◌, inl, inr, Option, Some, None, if◌then◌else◌}
use Rattle.std.proofs.lemmas.Bool.{and_parts}
use Rattle.nut_monitor_spec.specs.declared.LastQuery.{LastQuery}
use Rattle.nut_monitor_spec.specs.declared.Phase.{Phase}
use Rattle.nut_monitor_spec.specs.declared.Query.{Query}
use Rattle.nut_monitor_spec.specs.declared.Query.TheVariants.{NumLogins}
use Rattle.nut_monitor_spec.specs.Configuration.{Line, Configuration, line_in}
use Rattle.nut_monitor_spec.specs.Decision.{opening, wanted, is_early, unless_early, first_of_both}
use Rattle.nut_monitor_spec.specs.Trace.{clock, may_ask, last_query, forced, phase}
use Rattle.nut_monitor_spec.specs.laws.Laws.{QueriesComeAlone, LoginsFollowFsd, AnswersComeInTurn}
use Rattle.nut_monitor_spec.proofs.Kept.{all-hold}

pub come-alone : QueriesComeAlone
come-alone configuration past i query is = grind (arith, and_parts)

opening-no_count : (line : Line) (last : Option LastQuery) → opening line last ≡ Some NumLogins → ⊥
opening-no_count line last is = grind arith

first-some : (one other : Option Query) (query : Query) → first_of_both one other ≡ Some query → (one ≡ Some query) ⊎ (other ≡ Some query)
first-some one other query is = grind arith

unless-some : (configuration : Configuration) (time : ℕ) (asked : Option Query) (last : Option LastQuery) (query : Query) →
    unless_early configuration time asked last ≡ Some query → asked ≡ Some query
unless-some configuration time None last query is = cc
unless-some configuration time (Some asked) last query is = by (is_early configuration time asked last) is
  where
    by : (b : Bool) → (let o : Option Query = if b then None else Some asked in o) ≡ Some query → Some asked ≡ Some query
    by true is = cc
    by false is = is

wanted-count : (now : Phase) (primary done : Bool) → wanted now primary done ≡ Some NumLogins → (done ≡ true) × (primary ≡ true)
wanted-count now primary done is = grind arith

asked-if : (b : Bool) (query : Option Query) (asked : Query) → (if b then query else None) ≡ Some asked → query ≡ Some asked
asked-if b query asked is = grind arith

pub follow-fsd : LoginsFollowFsd
follow-fsd configuration past i is =
    let line = line_in configuration.lines i in
    let time = clock past in
    let want = wanted (phase configuration past) line.primary (forced i past) in
    elim (first-some (opening line (last_query i past)) (unless_early configuration time want (last_query i past)) NumLogins (asked-if (may_ask i past) _ NumLogins is)) [
      | inl first ↦ absurd (opening-no_count line (last_query i past) first)
      | inr later ↦ wanted-count (phase configuration past) line.primary (forced i past) (unless-some configuration time want (last_query i past) NumLogins later)
    ]

-- ---- answers in turn

pub come-in-turn : AnswersComeInTurn
come-in-turn configuration events i accepted there = grind (arith, all-hold)
