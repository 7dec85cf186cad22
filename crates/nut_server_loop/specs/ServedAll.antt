-- What holds after a list of arrivals was served to its end.
use Rattle.std.specs.Prelude.{◌≡◌, [], map, Some, None}
use Rattle.nut_server_spec.specs.Configuration.{Configuration}
use Rattle.nut_server_spec.specs.Content.{Content}
use Rattle.nut_server_loop.specs.Served.{Served}
use Rattle.nut_server_loop.specs.Memory.{MemoryState, event_of_given, first_coming, gave_of, StandIn}

-- The log of the world is that of a server with this content, with nothing left to close. Each arrival that `old` had left
-- was given or is still left. No arrival that is left may come: they are bytes of connections that may not be read.
pub record ServedAll (first : Configuration) (old new : MemoryState) (s : Content) : Type 0 where
  pub served : Served first (Some new.log) s []
  pub each : StandIn (map event_of_given old.left) (gave_of new.log) (map event_of_given new.left)
  pub stuck : first_coming s new.left ≡ None
