use Rattle.std.proofs.Common.{map, take}
use Rattle.nut_monitor_sockets.specs.Handing.{lost}
use Rattle.nut_monitor_sockets.proofs.held_losses.HeldLosses.tell_all.Given as goal

-- those so far are told
abbrev pub invariant-loop-line : goal.invariant-loop-line
invariant-loop-line g l =
    record { told : g.H.Herald.told l.monitor.config l.fn.herald l.herald (map lost (take l.line-index l.line-items)) }
