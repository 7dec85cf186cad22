-- The notices that were handed out.
use Rattle.std.specs.Prelude.{List, [], ◌∷◌, ◌++◌, take, Option, Some, None}
use Rattle.nut_monitor_spec.specs.declared.Notice.{Notice}
use Rattle.nut_monitor_spec.specs.Event.{Event, NoticeTaken}
use Rattle.nut_monitor_spec.specs.Trace.{Entry, notices_waiting}

-- the notices that an event hands out: the oldest one that waits if the event takes one, else none
abbrev pub handed_by : Event → List Notice → List Notice
handed_by NoticeTaken waiting = take 1 waiting
handed_by event waiting = []

-- all notices that were handed out, the oldest first
abbrev pub notices_handed : List Entry → List Notice
notices_handed [] = []
notices_handed (entry ∷ past) = notices_handed past ++ handed_by entry.event (notices_waiting past)

-- The history after the oldest notice was asked for. If one was handed out, its taking is the newest event.
abbrev pub after_asking : Option Notice → List Event → List Event
after_asking None events = events
after_asking (Some notice) events = NoticeTaken ∷ events
