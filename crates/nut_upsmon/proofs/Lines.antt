-- What holds of some MONITOR line, by the configuration and by its definition.
use Rattle.std.proofs.Common.{◌≡◌, ◌||◌, List, [], ◌∷◌, map, refl, ap}
use Rattle.std.specs.List.{list_any}
use Rattle.nut_conf.specs.declared.monitor.Monitored.{Monitored}
use Rattle.nut_monitor_spec.specs.Configuration.{line_of}
use Rattle.nut_upsmon.specs.Stopping.{is_led}

pub led : (ms : List Monitored) → list_any (λ m. is_led (line_of m)) ms ≡ list_any is_led (map line_of ms)
led [] = refl
led (m ∷ ms) = ap (λ b. is_led (line_of m) || b) (led ms)
