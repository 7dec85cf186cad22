use Rattle.std.proofs.Common.{◌≡◌, ◌++◌, map, take}
use Rattle.nut_monitor.specs.inside.Inside.{unwatched}
use Rattle.nut_monitor.proofs.state.put_unlinked.Given as goal

abbrev pub invariant-loop : goal.invariant-loop
invariant-loop l = l.watches.items ≡ l.fn.watches.items ++ map (λ line. unwatched) (take l.index l.lines)
