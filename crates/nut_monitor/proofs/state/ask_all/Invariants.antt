use Rattle.std.proofs.Common.{◌≡◌, length}
use Rattle.nut_monitor_spec.specs.Configuration.{configuration_of}
use Rattle.nut_monitor_spec.specs.machine.Machine.{asked_next}
use Rattle.nut_monitor.proofs.Loops.{front_asked}
use Rattle.nut_monitor.proofs.state.ask_all.Given as goal

abbrev pub invariant-loop-i : goal.invariant-loop-i
invariant-loop-i l =
    (l.watches.items ≡ front_asked (asked_next (configuration_of l.config) l.clock l.phase) l.i l.lines l.fn.watches.items)
    × (length l.watches.items ≡ length l.fn.watches.items)
