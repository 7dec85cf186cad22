use Rattle.std.proofs.Common.{◌≡◌, ℕ, ◌<◌, Some}
use Rattle.std.specs.Prelude.{slice_get}
use Rattle.nut_conf.specs.declared.monitor.Monitored.{Monitored}
use Rattle.nut_upsmon.specs.Reload.{IsReadyAt}
use Rattle.nut_upsmon.proofs.obstacle.first_obstacle.Given as goal

abbrev pub invariant-loop-i : goal.invariant-loop-i
invariant-loop-i l = (i : ℕ) → i < l.i → (former : Monitored) → slice_get l.monitor.config.monitors.lines.items i ≡ Some former →
    IsReadyAt i former l.monitor l.config
