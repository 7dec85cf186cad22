-- How many connections are open, and how many were opened.
use Rattle.std.proofs.Common.{◌≤◌, List, [], ◌∷◌, arith}
use Rattle.nut_server_spec.specs.Configuration.{Configuration}
use Rattle.nut_server_spec.specs.Event.{Event, Open, Bytes, DriverBytes, input, driver_input, steps, brought}
use Rattle.nut_server_spec.specs.Trace.{opened}
use Rattle.nut_server_spec.specs.Content.{content, past}
use Rattle.nut_server_spec.specs.Acceptance.{IsAccepted}
use Rattle.nut_server_spec.specs.laws.Laws.{ConnectionsAreFew}
use Rattle.nut_server_spec.proofs.Kept.{opened_lines, opened_reports}
use Rattle.nut_server_spec.proofs.Numbers.{numbers-rise}
use Rattle.nut_server_spec.proofs.Waiting.{few_history, opened_few}
use Rattle.nut_server_spec.specs.declared.limits.TheConstants.{OPENED_MAX}

opened-most : (first : Configuration) (h : List Event) → IsAccepted first h → opened (past first h) ≤ OPENED_MAX
opened-most first [] accepted = omega arith
opened-most first (Open address ∷ h) accepted = omega (arith, (opened_few (content first h) address accepted.1).2)
opened-most first (Bytes c piece ∷ h) accepted = omega (arith, opened_lines first c (brought (input c h) piece) (steps h), opened-most first h accepted.0)
opened-most first (DriverBytes u piece ∷ h) accepted = omega (arith, opened_reports first u (brought (driver_input u h) piece) (steps h), opened-most first h accepted.0)
opened-most first (e ∷ h) accepted = opened-most first h accepted.0

pub connections-few : ConnectionsAreFew
connections-few first h accepted = grind (arith, few_history, opened-most, numbers-rise)
