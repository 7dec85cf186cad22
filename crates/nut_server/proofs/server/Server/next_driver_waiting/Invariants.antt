use Rattle.std.proofs.Common.{◌≡◌, ◌<◌, ◌≤◌, ℕ, []}
use Rattle.nut_server_spec.specs.Acceptance.{asks_of}
use Rattle.nut_server.proofs.server.Server.next_driver_waiting.Given as goal

-- No bytes wait for the drivers of the UPSes already looked at.
abbrev pub invariant-loop-u : goal.invariant-loop-u
invariant-loop-u l = (l.least ≤ l.u) × ((v : ℕ) → l.least ≤ v → v < l.u → asks_of v l.self.supplies ≡ [])
