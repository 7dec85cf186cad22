use Rattle.std.proofs.Common.{◌≡◌, drop, map}
use Rattle.nut_monitor_spec.specs.Configuration.{line_of}
use Rattle.nut_monitor_spec.specs.machine.Machine.{all_alone}
use Rattle.nut_monitor.proofs.shutdown.is_alone.Given as goal

abbrev pub invariant-loop-i : goal.invariant-loop-i
invariant-loop-i l = all_alone (map line_of l.lines) l.watches ≡ all_alone (map line_of (drop l.i l.lines)) (drop l.i l.watches)
