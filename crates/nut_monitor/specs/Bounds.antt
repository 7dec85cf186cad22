-- How much a monitor keeps.
use Rattle.std.specs.Prelude.{◌≤◌, List, length, Option, Some, None}
use Rattle.std.specs.List.{AllByRecursion}
use Rattle.nut_link.specs.Bounds.{IsBounded}
use Rattle.nut_link.specs.Link.{LinkValue}
use Rattle.nut_monitor_spec.specs.Content.{Watch, Content}
use Rattle.nut_monitor_spec.specs.declared.limits.TheConstants.{NOTICES_MAX}

-- a link that is there keeps one query, an unfinished line, and the rows of a list
abbrev pub IsLinkBounded : Option LinkValue → Type 0
IsLinkBounded None = Unit {0}
IsLinkBounded (Some v) = IsBounded v

-- the link of each MONITOR line does so
abbrev pub AreLinksBounded : List Watch → Type 0
AreLinksBounded watches = AllByRecursion (λ w. IsLinkBounded w.link) watches

-- No more than NOTICES_MAX notices wait, and each link keeps no more than it may.
pub record KeepsLittle (s : Content) : Type 0 where
  pub notices : length s.notices ≤ NOTICES_MAX
  pub links : AreLinksBounded s.watches
