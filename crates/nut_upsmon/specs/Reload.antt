-- When a reload may replace a monitor.
use Rattle.std.specs.Prelude.{ℕ, ◌≡◌, false, Some, IfSome, slice_get}
use Rattle.nut_conf.specs.declared.monitor.Monitored.{Monitored}
use Rattle.nut_conf.specs.declared.upsmon.MonConfig.{MonConfig}
use Rattle.nut_monitor.specs.Monitors.{MonitorValue}
use Rattle.nut_monitor_spec.specs.declared.Known.{Known}
use Rattle.nut_monitor_spec.specs.declared.Phase.TheVariants.{Watching}
use Rattle.nut_monitor_spec.specs.Acceptance.{watch_at}
use Rattle.nut_monitor_spec.specs.Configuration.{Configuration, Line}
use Rattle.nut_monitor_spec.specs.Content.{phase_of}
use Rattle.nut_monitor_spec.specs.Decision.{is_critical}

-- A UPS is at rest if what is known of it never makes it critical, however much time passes.
abbrev pub IsAtRest : Known → Type 0
IsAtRest known =
    (configuration : Configuration) (line : Line) (clock : ℕ) →
    is_critical configuration line clock known.calm known.polled known.flags ≡ false

-- The UPS of line i is at rest if this configuration continues watching it.
abbrev pub IsReadyAt : ℕ → Monitored → MonitorValue → MonConfig → Type 0
IsReadyAt i former monitor config = (j : ℕ) (line : Monitored) → slice_get config.monitors.lines.items j ≡ Some line →
    line.target ≡ former.target → IfSome (watch_at i monitor.content.watches) (λ w. IsAtRest w.known)

-- Each UPS of this monitor that the configuration continues watching is at rest.
abbrev pub AreAtRest : MonitorValue → MonConfig → Type 0
AreAtRest monitor config = (i : ℕ) (former : Monitored) → slice_get monitor.config.monitors.lines.items i ≡ Some former →
    IsReadyAt i former monitor config

-- A monitor of this configuration may replace this one: no shutdown has begun, and what is forgotten leads to none.
abbrev pub MayReload : MonitorValue → MonConfig → Type 0
MayReload monitor config = (phase_of monitor.content ≡ Watching) × AreAtRest monitor config
