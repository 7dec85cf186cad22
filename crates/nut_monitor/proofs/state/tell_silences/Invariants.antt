use Rattle.std.proofs.Common.{◌≡◌, ◌≤◌, ◌+◌, ◌++◌, drop, length}
use Rattle.nut_monitor_spec.specs.Configuration.{configuration_of}
use Rattle.nut_monitor_spec.specs.machine.Machine.{silences_told, silent}
use Rattle.nut_monitor.proofs.Loops.{front_silent}
use Rattle.nut_monitor.proofs.state.tell_silences.Given as goal

abbrev pub invariant-loop-i : goal.invariant-loop-i
invariant-loop-i l =
    (l.watches.items ≡ front_silent (silent (configuration_of l.config) l.clock) l.i l.fn.watches.items)
    × (length l.watches.items ≡ length l.fn.watches.items)
    × (length l.notices ≤ length l.fn.notices + l.i)
    × (l.notices ++ silences_told (configuration_of l.config) l.clock l.i (drop l.i l.fn.watches.items)
    ≡ l.fn.notices ++ silences_told (configuration_of l.config) l.clock 0 l.fn.watches.items)
