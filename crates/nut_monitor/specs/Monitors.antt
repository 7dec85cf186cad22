-- What contracts see of a monitor.
use Rattle.nut_conf.specs.declared.upsmon.MonConfig.{MonConfig}
use Rattle.std.specs.Prelude.{Option, Some, None}
use Rattle.nut_monitor_spec.specs.declared.LastQuery.{LastQuery}
use Rattle.nut_monitor_spec.specs.Content.{Content, Watch}

-- The configuration that a monitor was made with, and its content.
pub record MonitorValue : Type 0 where
  pub config : MonConfig
  pub content : Content

-- the last query since the link of a line was made
abbrev pub last_on : Option Watch → Option LastQuery
last_on None = None
last_on (Some w) = w.last
