-- What the world of a server over sockets states about itself: it keeps no record, and notes who is late.
use Rattle.std.specs.Prelude.{ℕ, Bool, List, Option, None}
use Rattle.nut_server_loop.specs.Record.{Entry}
use Rattle.nut_server_loop.specs.declared.types.Peer.{Peer}
use Rattle.nut_server_loop.specs.declared.types.Peer.TheVariants.{Connection, Driver}
use Rattle.nut_poll.specs.Late.{is_noted}

-- the record of a server's world that keeps none
abbrev pub untold : Option (List Entry)
untold = None

-- whether a peer is noted as late, in the lists of connections and of drivers
abbrev pub is_late : List ℕ → List ℕ → Peer → Bool
is_late connections drivers (Connection c) = is_noted connections c
is_late connections drivers (Driver u) = is_noted drivers u
