-- The event that an arrival stands for.
use Rattle.nut_server_spec.specs.Event as E
use Rattle.nut_server.specs.declared.arrival.Arrival.{Arrival}
use Rattle.nut_server.specs.declared.arrival.Arrival.TheVariants as arrival

-- the event that an arrival stands for
abbrev pub event_of : Arrival → E.Event
event_of (arrival.Moment t) = E.Moment t
event_of (arrival.Open address) = E.Open address.now
event_of (arrival.Bytes c piece) = E.Bytes c piece.now
event_of (arrival.Took c n) = E.Took c n
event_of (arrival.Close c) = E.Close c
event_of (arrival.WriteFailed c) = E.WriteFailed c
event_of (arrival.DriverUp u) = E.DriverUp u
event_of (arrival.DriverBytes u piece) = E.DriverBytes u piece.now
event_of (arrival.DriverTook u n) = E.DriverTook u n
event_of (arrival.DriverDown u) = E.DriverDown u
event_of (arrival.Reload configuration) = E.Reload configuration.value
