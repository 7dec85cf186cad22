-- The events of the definitions that the code's events are.
use Rattle.nut_monitor_spec.specs.Event as E
use Rattle.nut_monitor.specs.declared.event.Event.{Event}
use Rattle.nut_monitor.specs.declared.event.Event.TheVariants as events

-- the event of the definitions
abbrev pub event_of : Event → E.Event
event_of (events.Moment t) = E.Moment t
event_of (events.Linked i) = E.Linked i
event_of (events.LinkBytes i piece) = E.LinkBytes i piece.now
event_of (events.LinkLost i) = E.LinkLost i
event_of (events.LinkTook i n) = E.LinkTook i n
