-- A UPS as its driver has reported it, and whether its data can be relied on (NUT developer guide, chapter 5).
use Rattle.std.specs.Prelude.{ℕ, ◌+◌, ◌/◌, Bool, true, false, not, ◌&&◌, ◌||◌, nat_lt, nat_le, if◌then◌else◌, List, [], length, Option, Some, None}
use Rattle.std.specs.Option.{option_map_or}
use Rattle.nut_queue.specs.declared.limits.TheConstants.{ASKS_MAX}
use Rattle.nut_state.specs.Table.{Table, empty}
use Rattle.nut_proto.specs.declared.refusal.Refusal.{Refusal}
use Rattle.nut_proto.specs.declared.refusal.Refusal.TheVariants.{DriverNotConnected, DataStale}
use Rattle.nut_proto.specs.declared.driver_ask.DriverAsk.TheVariants.{Ping}
use Rattle.nut_proto.specs.DriverAsks.{ask_line}
use Rattle.nut_server_spec.specs.Tracking.{Tracked}

-- A UPS: whether its driver is connected; the table that the driver has reported since it was connected; the moment at
-- which a line of the driver was last heard, or it was connected; the moment of the last PING since then, if there was
-- one; whether a shutdown was forced; the requests that wait for the driver; and the newest tracked requests, the newest
-- first.
pub record Device : Type 0 where
  pub connected : Bool
  pub table : Table
  pub heard_at : ℕ
  pub pinged_at : Option ℕ
  pub forced : Bool
  pub waits : List ℕ
  pub tracked : List Tracked

-- a UPS whose driver was never connected
abbrev pub absent : Device
absent = record { connected = false; table = empty; heard_at = 0; pinged_at = None; forced = false; waits = []; tracked = [] }

-- whether more than `seconds` have passed since the moment
abbrev pub is_past : ℕ → ℕ → ℕ → Bool
is_past seconds clock moment = nat_lt (moment + seconds) clock

-- Whether the data are stale: the driver hasn't finished its dump; or it has said neither DATAOK nor DATASTALE, or
-- DATASTALE last; or no line was heard for more than MAXAGE seconds.
abbrev pub is_stale : ℕ → ℕ → Device → Bool
is_stale max_age clock d = not d.table.dump_done || not d.table.data_ok || is_past max_age clock d.heard_at

-- why requests about the UPS's data are refused now, if they are
abbrev pub trouble : ℕ → ℕ → Device → Option Refusal
trouble max_age clock d =
    if not d.connected then Some DriverNotConnected else
    if is_stale max_age clock d then Some DataStale else None

-- a request fits behind those that wait, of at most ASKS_MAX bytes in all
abbrev pub fits : List ℕ → Device → Bool
fits line d = nat_le (length d.waits + length line) ASKS_MAX

-- Whether the driver is sent PING: it is connected; more than a third of MAXAGE, rounded down, has passed since a line
-- was last heard, and since the last PING if there was one; and the PING fits.
abbrev pub needs_ping : ℕ → ℕ → Device → Bool
needs_ping max_age clock d =
    d.connected && is_past (max_age / 3) clock d.heard_at
    && option_map_or (is_past (max_age / 3) clock) d.pinged_at true && fits (ask_line Ping) d
