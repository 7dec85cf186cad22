-- What a call changes in the state of a monitor.
use Rattle.std.specs.Prelude.{◌≡◌, Bool, true, false, Option, Some, None, Result, if◌then◌else◌, is_some}
use Rattle.nut_monitor_spec.specs.declared.MonitorFault.{MonitorFault}
use Rattle.nut_monitor_spec.specs.declared.MonitorFault.TheVariants.{NoSuchLink, WrongLinkState}
use Rattle.nut_monitor_spec.specs.Configuration.{Configuration}
use Rattle.nut_monitor_spec.specs.Content.{Watch, Content}
use Rattle.nut_monitor_spec.specs.Event.{Event}
use Rattle.nut_monitor.specs.declared.state.State.{State}
use Rattle.nut_monitor_spec.specs.Outcome.{IsAnswer}
use Rattle.nut_monitor_spec.specs.machine.MachineOutcome.{content_after}
use Rattle.nut_monitor.specs.inside.Inside.{IsOrderly}

-- the content of a monitor with this configuration and state
abbrev pub content_in : Configuration → State → Content
content_in configuration s = record {
  configuration = configuration;
  clock = s.clock;
  begun = s.begun;
  ended = s.ended;
  notices = s.notices;
  watches = s.watches.items;
}

-- an event was answered by this result, and the state became what that answer leads to
pub record Steps (configuration : Configuration) (before : State) (event : Event) (result : Result (Unit {0}) MonitorFault)
    (after : State) : Type 0 where
  pub answered : IsAnswer (content_in configuration before) event result
  pub content : content_in configuration after ≡ content_after result (content_in configuration before) event
  pub orderly : IsOrderly (content_in configuration after)

-- why an event of a link is refused that has to be up (or down), if it is
abbrev pub checked_fault : Bool → Option Watch → Option MonitorFault
checked_fault linked None = Some NoSuchLink
checked_fault true (Some w) = if is_some w.link then None else Some WrongLinkState
checked_fault false (Some w) = if is_some w.link then Some WrongLinkState else None
