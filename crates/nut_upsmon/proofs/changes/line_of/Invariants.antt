use Rattle.std.proofs.Common.{◌≡◌, ℕ, ◌<◌, Some}
use Rattle.std.specs.Prelude.{slice_get}
use Rattle.nut_conf.specs.declared.monitor.Monitored.{Monitored}
use Rattle.nut_upsmon.proofs.changes.line_of.Given as goal

abbrev pub invariant-loop-other : goal.invariant-loop-other
invariant-loop-other l = (i : ℕ) → i < l.other-index → (other : Monitored) → slice_get l.lines i ≡ Some other → other.target ≡ l.line.target → ⊥
