-- What holds while upsmon watches.
use Rattle.std.specs.Prelude.{◌≡◌, List, Option, Some, IfSome}
use Rattle.std.specs.List.{AllByRecursion}
use Rattle.nut_conf.specs.declared.upsmon.MonConfig.{MonConfig}
use Rattle.nut_monitor.specs.Monitors.{MonitorValue}
use Rattle.nut_upsmon.specs.declared.beginning.Beginning.{Beginning}
use Rattle.nut_upsmon.specs.Acts.{Act, ClearsFirst, IsQuiet, halt_of, readied, in_force}
use Rattle.nut_upsmon.specs.Reload.{MayReload}

-- Nothing of a halt was done, the halt of this configuration is in force, if the next watch has its beginning, that of its
-- configuration was readied last, and before all else a flag that was left was removed.
abbrev pub IsReadyIn : Option Beginning → MonConfig → List Act → Type 0
IsReadyIn next config acts =
    AllByRecursion IsQuiet acts × (in_force acts ≡ Some (halt_of config)) × IfSome next (λ b. readied acts ≡ Some (halt_of b.monitor.config))
    × ClearsFirst acts

abbrev pub IsReady : Option (List Act) → Option Beginning → MonConfig → Type 0
IsReady log next config = IfSome log (IsReadyIn next config)

-- The next watch has this beginning, and may take the place of this monitor's.
abbrev pub IsFollowed : Option Beginning → MonitorValue → Type 0
IsFollowed next monitor = (b : Beginning) × (next ≡ Some b) × MayReload monitor b.monitor.config
