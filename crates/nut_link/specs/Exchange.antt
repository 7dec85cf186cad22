-- How far an exchange has come.
use Rattle.std.specs.Prelude.{Option}
use Rattle.nut_link.specs.declared.fault.LinkFault.{LinkFault}
use Rattle.nut_link.specs.declared.outcome.Outcome.{Outcome}
use Rattle.nut_link.specs.Asking as asking

-- No query was asked, or its answer was taken out; a query has no complete answer; or a complete answer wasn't taken out yet.
pub data Stage : Type 0 where
  Idle : Stage
  Asked : asking.Asked → Stage
  Answered : Outcome → Stage

-- The stage, and the fault with which the exchange failed, if it did.
pub record Exchange : Type 0 where
  pub stage : Stage
  pub fault : Option LinkFault
