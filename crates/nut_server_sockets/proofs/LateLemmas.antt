-- Who is late after a write whose outcome was noted in one of the two lists.
use Rattle.std.proofs.Common.{◌≡◌, ℕ, Bool, true, false, List, refl}
use Rattle.std.specs.Prelude.{◌||◌}
use Rattle.nut_io.specs.Writes as writes
use Rattle.nut_io.specs.declared.types.Written.{Written}
use Rattle.nut_io.specs.declared.types.Written.TheVariants.{Took, Later, Failed}
use Rattle.nut_poll.specs.Late.{is_noted}
use Rattle.nut_server_loop.specs.Record.{late_after}
use Rattle.nut_server_loop.specs.declared.types.Peer.{Peer}
use Rattle.nut_server_loop.specs.declared.types.Peer.TheVariants.{Connection, Driver}
use Rattle.nut_server_sockets.specs.Untold.{is_late}

or-false : (b : Bool) → b ≡ (b || false)
or-false true = refl
or-false false = refl

pub connection_noted : (w : Written) (n : ℕ) (old new drivers : List ℕ) → ((d : ℕ) → is_noted new d ≡ writes.late_after w n (is_noted old) d) → (p : Peer)
    → is_late new drivers p ≡ late_after w (Connection n) (is_late old drivers) p
connection_noted (Took k) n old new drivers says (Connection d) = says d
connection_noted Later n old new drivers says (Connection d) = says d
connection_noted Failed n old new drivers says (Connection d) = says d
connection_noted Later n old new drivers says (Driver u) = or-false (is_noted drivers u)
connection_noted (Took k) n old new drivers says (Driver u) = refl
connection_noted Failed n old new drivers says (Driver u) = refl

pub driver_noted : (w : Written) (n : ℕ) (connections old new : List ℕ) → ((v : ℕ) → is_noted new v ≡ writes.late_after w n (is_noted old) v) → (p : Peer)
    → is_late connections new p ≡ late_after w (Driver n) (is_late connections old) p
driver_noted (Took k) n connections old new says (Driver v) = says v
driver_noted Later n connections old new says (Driver v) = says v
driver_noted Failed n connections old new says (Driver v) = says v
driver_noted Later n connections old new says (Connection c) = or-false (is_noted connections c)
driver_noted (Took k) n connections old new says (Connection c) = refl
driver_noted Failed n connections old new says (Connection c) = refl
