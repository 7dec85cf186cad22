-- What the code keeps of a fleet.
use Rattle.std.specs.Prelude.{ℕ, ◌≡◌, Bool, false, List, [], length, map, slice_get, slice_index_or, Option, Some, None}
use Rattle.nut_conf.specs.declared.upsmon.MonConfig.{MonConfig}
use Rattle.nut_server_spec.specs.Configuration.{Configuration as ServerConfiguration}
use Rattle.nut_server_spec.specs.Content as server
use Rattle.nut_monitor_spec.specs.Content as knowledge
use Rattle.nut_monitor_spec.specs.Configuration.{Configuration, configuration_of}
use Rattle.nut_monitor.specs.Monitors.{MonitorValue}
use Rattle.nut_fleet.specs.World.{Setup, World, no_monitor}
use Rattle.nut_fleet.specs.Seen.{Ends, Fleet, Keeps}

-- a monitor with its links
pub record Seat : Type 0 where
  pub monitor : MonitorValue
  pub links : List Ends

-- the content of the server, the monitors, and whether memory was lacking at a step
pub record Kept : Type 0 where
  pub server : server.Content
  pub seats : List Seat
  pub failed : Bool

-- a link that was never made
abbrev pub no_ends : Ends
no_ends = record { connection = 0; to_server = []; to_monitor = [] }

-- the link with the number i
abbrev pub ends_at : List Ends → ℕ → Ends
ends_at links i = slice_index_or links i no_ends

-- what a monitor knows, and its links; nothing and none if there is no such monitor
abbrev pub known_in : Option Seat → knowledge.Content
known_in None = knowledge.content no_monitor []
known_in (Some seat) = seat.monitor.content

abbrev pub links_in : Option Seat → List Ends
links_in None = []
links_in (Some seat) = seat.links

-- what is kept, as a fleet of the definitions
abbrev pub fleet_of : Kept → Fleet
fleet_of k = record {
  server = k.server;
  monitor = λ m. known_in (slice_get k.seats m);
  link = λ m i. ends_at (links_in (slice_get k.seats m)) i;
}

-- ---- before any step

-- a new monitor of this file
abbrev pub fresh_seat : MonConfig → Seat
fresh_seat c = record {
  monitor = record { config = c; content = knowledge.content (configuration_of c) [] };
  links = map (λ line. no_ends) (configuration_of c).lines;
}

-- a server of this configuration and the monitors of these files, all of them new
abbrev pub fresh_fleet : ServerConfiguration → List MonConfig → Kept
fresh_fleet first monitors = record { server = server.content first []; seats = map fresh_seat monitors; failed = false }

-- ---- the world that it belongs to

-- What is kept is the fleet of this world, which hasn't failed, and to which no reload has added a UPS.
pub record IsFleet (setup : Setup) (w : World) (k : Kept) : Type 0 where
  pub monitors : map (λ (seat : Seat). configuration_of seat.monitor.config) k.seats ≡ setup.monitors
  pub links : map (λ (seat : Seat). length seat.links) k.seats ≡ map (λ (c : Configuration). length c.lines) setup.monitors
  pub keeps : Keeps setup w (fleet_of k)
  pub upses : length k.server.configuration.upses ≡ length setup.server.upses
  pub works : k.failed ≡ false
