-- When a monitor gives up a server.
use Rattle.std.specs.Prelude.{◌≡◌, ◌≢◌, ℕ, ◌+◌, ◌<◌, Some, option_map}
use Rattle.nut_monitor_spec.specs.declared.LastQuery.{LastQuery}
use Rattle.nut_monitor_spec.specs.Acceptance.{watch_at, answer_on}
use Rattle.nut_monitor_spec.specs.Content.{Content}
use Rattle.nut_monitor.specs.Monitors.{last_on}

-- This is the last query on link i of a monitor with this content, and the last answer isn't to it.
abbrev pub IsOwed : Content → ℕ → LastQuery → Type 0
IsOwed s i query =
    (last_on (watch_at i s.watches) ≡ Some query) × (option_map (λ a. a.asked) (answer_on (watch_at i s.watches)) ≢ Some query)

-- The query on link i isn't answered, though it was put more than `limit` seconds before this one.
abbrev pub IsSilent : ℕ → ℕ → Content → ℕ → Type 0
IsSilent limit second s i = (query : LastQuery) × IsOwed s i query × (query.moment + limit < second)
