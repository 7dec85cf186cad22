-- How a line hears a piece: its link does.
use Rattle.std.specs.Prelude.{◌≡◌, ℕ, ◌++◌, List, [], if◌then◌else◌, Option, Some, None, is_some, Result}
use Rattle.nut_link.specs.Hearing.{Feeds}
use Rattle.nut_link.specs.Link.{LinkValue, outcome_of, taken_out, with_exchange}
use Rattle.nut_link.specs.declared.outcome.Outcome.{Outcome}
use Rattle.nut_link.specs.declared.fault.LinkFault.{LinkFault}
use Rattle.nut_monitor_spec.specs.declared.Notice.{Notice}
use Rattle.nut_monitor_spec.specs.Configuration.{Configuration}
use Rattle.nut_monitor_spec.specs.Content.{Watch}
use Rattle.nut_monitor_spec.specs.machine.Machine.{told_heard, watch_heard}
use Rattle.nut_monitor.specs.declared.answer.AnswerScene.{AnswerScene}

-- A link is fed a piece. Its answer is taken out if one is complete, and the link is dropped if it failed.
pub record IsFed (v : LinkValue) (piece : List ℕ) (done : ℕ) (result : Result (Unit {0}) LinkFault)
    (outcome : Option Outcome) (left : Option LinkValue) : Type 0 where
  pub link : LinkValue
  pub feeds : Feeds v piece done result link
  pub answer : outcome ≡ outcome_of link.exchange
  pub stands : left ≡ (if is_some link.exchange.fault then None else Some (with_exchange (taken_out link.exchange) link))

-- Fed the piece, the link becomes another. Then the answer that is complete is heard; and if the link failed, it is
-- lost.
pub record HearsPiece (configuration : Configuration) (scene : AnswerScene) (piece : List ℕ) (v : LinkValue) (before : Watch)
    (told : List Notice) (result : ℕ × Result (Unit {0}) LinkFault) (after : Watch) (news : List Notice) : Type 0 where
  pub going : v.exchange.fault ≡ None
  pub link : LinkValue
  pub feeds : Feeds v piece result.0 result.1 link
  pub watch : after ≡ watch_heard configuration scene.clock scene.watching link before
  pub tells : news ≡ told ++ (if scene.watching then told_heard configuration scene.clock scene.line scene.watching link before else [])
