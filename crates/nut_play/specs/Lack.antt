-- At which steps memory may be lacking.
use Rattle.std.specs.Prelude.{ℕ, ◌<◌, ◌⊎◌, Bool, false, IsTrue, length, Option}
use Rattle.nut_server_spec.specs.declared.Place.{Place}
use Rattle.nut_server_spec.specs.Outcome as server
use Rattle.nut_monitor_spec.specs.Outcome as monitor
use Rattle.nut_fleet.specs.Schedule.{Step, Out, Back}
use Rattle.nut_fleet.specs.World.{Setup, World, Deed, Tell, Inform, known, is_open, is_linked, deed}
use Rattle.nut_fleet.specs.Log.{news}

-- A core may lack memory at what a step does: the server, or a monitor, at its event.
abbrev pub CoreMayLack : Setup → World → Deed → Type 0
CoreMayLack setup w (Tell event) = (place : Place) × server.MayLack setup.server w.server place event
CoreMayLack setup w (Inform m event) = (link : Option ℕ) × (k : ℕ) × monitor.MayLack (known setup w m) link k event
CoreMayLack setup w d = ⊥

-- whether bytes come into a pipe: an end puts some in, and the other end isn't cut
abbrev pub pipe_grows : Setup → World → Step → Deed → Bool
pipe_grows setup w (Out m i n) (Inform k event) = is_open setup w m i
pipe_grows setup w (Back m i n) (Tell event) = is_linked setup w m i
pipe_grows setup w step d = false

-- Memory may be lacking at a step if a core may lack it there, if bytes come into a pipe, or if something is logged.
abbrev pub MayLack : Setup → World → Step → Type 0
MayLack setup w step =
    let d : Deed = deed setup w step in
    CoreMayLack setup w d ⊎ (IsTrue (pipe_grows setup w step d) ⊎ (0 < length (news setup w step)))
