use Rattle.std.proofs.Common.{◌≡◌, map}
use Rattle.nut_server_spec.specs.Numbering.{below}
use Rattle.nut_server_spec.specs.Content.{unheard}
use Rattle.nut_server.proofs.server.untold.Given as goal

abbrev pub invariant-loop : goal.invariant-loop
invariant-loop l = l.devices.items ≡ map (λ u. unheard) (below l.counter)
