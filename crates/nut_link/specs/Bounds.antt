-- How much a link keeps.
use Rattle.std.specs.Prelude.{ℕ, ◌≤◌, length}
use Rattle.std.specs.Option.{option_map_or}
use Rattle.nut_proto.specs.declared.limits.TheConstants.{ROWS_MAX}
use Rattle.nut_words.specs.Cutter.{kept_of}
use Rattle.nut_link.specs.Exchange.{Stage}
use Rattle.nut_link.specs.Exchange as stages
use Rattle.nut_link.specs.declared.outcome.Outcome.{Outcome}
use Rattle.nut_link.specs.declared.outcome.Outcome.TheVariants as outcomes
use Rattle.nut_link.specs.Link.{LinkValue, waits_in}
use Rattle.nut_words.specs.declared.limits.TheConstants.{LINE_MAX}
use Rattle.nut_link.specs.declared.limits.TheConstants.{QUERY_MAX}

-- how many rows an answer has
abbrev pub rows_of : Outcome → ℕ
rows_of outcomes.Done = 0
rows_of (outcomes.Said words) = 0
rows_of (outcomes.List rows) = length rows
rows_of (outcomes.Refused name) = 0

-- how many rows are kept
abbrev pub rows_in : Stage → ℕ
rows_in stages.Idle = 0
rows_in (stages.Asked query) = option_map_or (λ rows. length rows) query.rows 0
rows_in (stages.Answered outcome) = rows_of outcome

-- One query of at most QUERY_MAX bytes, its line feed with them, and at most ROWS_MAX rows.
pub record IsStageBounded (stage : Stage) : Type 0 where
  pub query : length (waits_in stage) ≤ QUERY_MAX
  pub rows : rows_in stage ≤ ROWS_MAX

-- And at most LINE_MAX bytes of an unfinished line.
pub record IsBounded (v : LinkValue) : Type 0 where
  pub stage : IsStageBounded v.exchange.stage
  pub line : kept_of v.rest ≤ LINE_MAX
