use Rattle.std.proofs.Common.{◌≡◌, ◌-◌, drop, map}
use Rattle.nut_monitor_spec.specs.Configuration.{configuration_of, line_of}
use Rattle.nut_monitor_spec.specs.machine.Machine.{supply_of}
use Rattle.nut_monitor.proofs.shutdown.is_short.Given as goal

abbrev pub invariant-loop-i : goal.invariant-loop-i
invariant-loop-i l =
    l.missing - supply_of (configuration_of l.config) l.clock (map line_of (drop l.i l.lines)) (drop l.i l.watches)
    ≡ l.config.min_supplies.value - supply_of (configuration_of l.config) l.clock (map line_of l.lines) l.watches
