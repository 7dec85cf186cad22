use Rattle.std.proofs.Common.{◌≡◌, ◌+◌, drop}
use Rattle.std.specs.Option.{option_map}
use Rattle.nut_monitor.specs.Texts.{place_of}
use Rattle.nut_monitor.proofs.message.mark_place.Given as goal

abbrev pub invariant-loop-at : goal.invariant-loop-at
invariant-loop-at l = place_of l.text ≡ option_map (λ n. l.at + n) (place_of (drop l.at l.text))
