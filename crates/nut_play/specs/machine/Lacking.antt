-- At which steps memory may be lacking, by what the code keeps: the twin of `Lack`, whose worlds it doesn't know. Who
-- believes `Lack` needn't believe this file.
use Rattle.std.specs.Prelude.{ℕ, ◌≡◌, ◌++◌, ◌<◌, ◌⊎◌, Bool, false, IsTrue, [], ◌∷◌, length, Option}
use Rattle.nut_words.specs.Bytes.{line_feed}
use Rattle.nut_server_spec.specs.declared.Place.{Place}
use Rattle.nut_server_spec.specs.declared.Refused.TheVariants.{Memory}
use Rattle.nut_server_spec.specs.Event as arrivals
use Rattle.nut_server_spec.specs.Content as server
use Rattle.nut_server_spec.specs.machine.MachineOutcome.{Refuses}
use Rattle.nut_monitor_spec.specs.Event as events
use Rattle.nut_monitor_spec.specs.Content as knowledge
use Rattle.nut_monitor_spec.specs.Outcome.{MayLack}
use Rattle.nut_fleet.specs.Schedule.{Step, ServerClock, MonitorClock, Up, Driver, Down, Link, Out, Reach, Back, Land, CutServer, CutMonitor}
use Rattle.nut_fleet.specs.World.{Deed, Tell, Inform}
use Rattle.nut_play.specs.Kept.{Kept}
use Rattle.nut_play.specs.machine.Next.{tell_by, inform_by, open_by, linked_by, reach_by, back_by, out_by, land_by, told_news, link_of, known_of, said}

-- The server may lack memory at what a step does, and so may monitor m.
abbrev pub ServerLacks : server.Content → Deed → Type 0
ServerLacks s (Tell event) = (place : Place) × Refuses s event (Memory place)
ServerLacks s d = ⊥

abbrev pub CoreLacks : ℕ → knowledge.Content → Deed → Type 0
CoreLacks m t (Inform j event) = (j ≡ m) × (link : Option ℕ) × (k : ℕ) × MayLack t link k event
CoreLacks m t d = ⊥

-- It may, or the log may, as the monitor reports something.
abbrev pub MonitorLacks : ℕ → knowledge.Content → Deed → Type 0
MonitorLacks m t d = CoreLacks m t d ⊎ (0 < length (told_news d t))

-- whether bytes come into a pipe whose other end is there or cut
abbrev pub out_grows : Bool → Deed → Bool
out_grows there (Inform m event) = there
out_grows there d = false

abbrev pub back_grows : Bool → Deed → Bool
back_grows there (Tell event) = there
back_grows there d = false

abbrev pub SendLacks : Bool → ℕ → knowledge.Content → Deed → Type 0
SendLacks there m t d = IsTrue (out_grows there d) ⊎ MonitorLacks m t d

-- memory may be lacking at a step, apart from the news that it is skipped
abbrev pub StepLacks : Kept → Step → Type 0
StepLacks k (ServerClock t) = ServerLacks k.server (tell_by k.server (arrivals.Moment t))
StepLacks k (MonitorClock m t) = MonitorLacks m (known_of k m) (inform_by m (known_of k m) (events.Moment t))
StepLacks k (Up u) = ServerLacks k.server (tell_by k.server (arrivals.DriverUp u))
StepLacks k (Driver u line) = ServerLacks k.server (tell_by k.server (arrivals.DriverBytes u (line ++ line_feed ∷ [])))
StepLacks k (Down u) = ServerLacks k.server (tell_by k.server (arrivals.DriverDown u))
StepLacks k (Link m i) = 0 < length (said k (Link m i))
StepLacks k (Out m i n) = SendLacks (open_by k.server (link_of k m i)) m (known_of k m) (out_by m (known_of k m) i n)
StepLacks k (Reach m i n) = ServerLacks k.server (reach_by k.server (link_of k m i) n)
StepLacks k (Back m i n) = IsTrue (back_grows (linked_by (known_of k m) i) (back_by k.server (link_of k m i) n))
StepLacks k (Land m i n) = MonitorLacks m (known_of k m) (land_by m (known_of k m) i (link_of k m i) n)
StepLacks k (CutServer m i) = ServerLacks k.server (tell_by k.server (arrivals.Close (link_of k m i).connection))
StepLacks k (CutMonitor m i) = MonitorLacks m (known_of k m) (inform_by m (known_of k m) (events.LinkLost i))
StepLacks k step = ⊥
