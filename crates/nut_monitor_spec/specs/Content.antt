-- The content of a monitor: what it has to know of its past. Two histories with the same content are answered alike.
use Rattle.std.specs.Prelude.{ℕ, suc, List, [], ◌∷◌, if◌then◌else◌, Option, Some, None}
use Rattle.nut_words.specs.Lines.{rest}
use Rattle.nut_link.specs.Exchange.{Stage}
use Rattle.nut_link.specs.Exchange as stages
use Rattle.nut_link.specs.Link.{LinkValue}
use Rattle.nut_link.specs.Matching.{expected}
use Rattle.nut_monitor_spec.specs.declared.Known.{Known}
use Rattle.nut_monitor_spec.specs.declared.LastAnswer.{LastAnswer}
use Rattle.nut_monitor_spec.specs.declared.LastQuery.{LastQuery}
use Rattle.nut_monitor_spec.specs.declared.Notice.{Notice}
use Rattle.nut_monitor_spec.specs.declared.Phase.{Phase}
use Rattle.nut_monitor_spec.specs.Configuration.{Line, Configuration, line_in}
use Rattle.nut_monitor_spec.specs.Decision.{phase_at}
use Rattle.nut_monitor_spec.specs.Event.{Event}
use Rattle.nut_monitor_spec.specs.Query.{request}
use Rattle.nut_monitor_spec.specs.Trace.{Asked, Entry, clock, moment_of, linked, input, outstanding, waits, last_query, last_answer, known, begun, ended, trace, notices_waiting}

-- What is watched for a MONITOR line: its link if that is up, the last query and the last answer since the link was last
-- made, and what is known of the UPS.
pub record Watch : Type 0 where
  pub link : Option LinkValue
  pub last : Option LastQuery
  pub answer : Option LastAnswer
  pub known : Known

-- `begun` and `ended` are the moments at which the shutdown and Final began, None before. `notices` are those that
-- wait, the oldest first. `watches` has one watch for each MONITOR line, in the order of the file.
pub record Content : Type 0 where
  pub configuration : Configuration
  pub clock : ℕ
  pub begun : Option ℕ
  pub ended : Option ℕ
  pub notices : List Notice
  pub watches : List Watch

-- the stage of the exchange on a link: no query is outstanding, or one is, and these of its bytes wait
abbrev pub stage_in : Line → Option Asked → List ℕ → Stage
stage_in line None waits = stages.Idle
stage_in line (Some asked) waits =
    stages.Asked (record { expected = expected (request line asked.query); waits = waits; rows = None })

-- the link of line i as the past has it
abbrev pub link_at : Configuration → List Entry → ℕ → LinkValue
link_at configuration past i = record {
  rest = rest (input i past);
  exchange = record {
    stage = stage_in (line_in configuration.lines i) (outstanding i past) (waits configuration i past);
    fault = None;
  };
}

abbrev pub watch : Configuration → List Entry → ℕ → Watch
watch configuration past i = record {
  link = if linked i past then Some (link_at configuration past i) else None;
  last = last_query i past;
  answer = last_answer i past;
  known = known i past;
}

-- the value of `of` for each line's number, in order
abbrev pub for_each_line : {A : Type 0} → (ℕ → A) → List Line → List A
for_each_line of [] = []
for_each_line of (line ∷ lines) = of 0 ∷ for_each_line (λ i. of (suc i)) lines

abbrev pub content_of : Configuration → List Entry → Content
content_of configuration past = record {
  configuration = configuration;
  clock = clock past;
  begun = moment_of (begun configuration past);
  ended = moment_of (ended configuration past);
  notices = notices_waiting past;
  watches = for_each_line (watch configuration past) configuration.lines;
}

-- the content of a monitor that was made with this configuration and had these events
abbrev pub content : Configuration → List Event → Content
content configuration events = content_of configuration (trace configuration events)

-- the phase of a monitor with this content
abbrev pub phase_of : Content → Phase
phase_of s = phase_at s.configuration s.clock s.begun s.ended
