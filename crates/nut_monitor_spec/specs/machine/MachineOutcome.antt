-- The content after an event and the answer to it, as the machine has it: the twin of `after`, whose histories it doesn't know.
use Rattle.std.specs.Prelude.{List, Result, Ok, Err}
use Rattle.nut_monitor_spec.specs.declared.MonitorFault.{MonitorFault}
use Rattle.nut_monitor_spec.specs.declared.MonitorFault.TheVariants.{Memory}
use Rattle.nut_monitor_spec.specs.Configuration.{Configuration}
use Rattle.nut_monitor_spec.specs.Event.{Event}
use Rattle.nut_monitor_spec.specs.Content.{Content}
use Rattle.nut_monitor_spec.specs.Acceptance.{Tells}
use Rattle.nut_monitor_spec.specs.Outcome.{IsAnswer, after, cut_short}
use Rattle.nut_monitor_spec.specs.machine.Machine.{advance}

-- the content after a refusal
abbrev pub content_after_refusal : MonitorFault → Content → Event → Content
content_after_refusal (Memory link k) s event = advance s (cut_short k event)
content_after_refusal fault s event = s

-- the content after an event and the answer to it: that of the history after it
abbrev pub content_after : {U : Type 0} → Result U MonitorFault → Content → Event → Content
content_after (Ok u) s event = advance s event
content_after (Err fault) s event = content_after_refusal fault s event

-- ---- the law

-- Whatever a monitor may answer to an event, its content afterwards is the content of the history after that answer.
abbrev pub AnswersKeepContent : Type 0
AnswersKeepContent =
    (configuration : Configuration) (events : List Event) (s : Content) (event : Event) (r : Result (Unit {0}) MonitorFault) →
    Tells configuration events s → IsAnswer s event r → Tells configuration (after r event events) (content_after r s event)
