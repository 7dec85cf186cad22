-- A room that runs: what happened at its server and at its monitors, and what the network between them carried.
use Rattle.std.specs.Prelude.{ℕ, suc, ◌≡◌, ◌≢◌, ◌<◌, ◌≤◌, ◌==◌, true, if◌then◌else◌, List, [], ◌∷◌, ◌++◌, length, Option, Some}
use Rattle.nut_words.specs.Quoting.{Begins}
use Rattle.nut_server_spec.specs.Configuration.{Configuration as ServerConfiguration}
use Rattle.nut_server_spec.specs.Event as arrivals
use Rattle.nut_server_spec.specs.Content as server
use Rattle.nut_monitor_spec.specs.Configuration.{Configuration}
use Rattle.nut_monitor_spec.specs.Event as events
use Rattle.nut_monitor_spec.specs.Trace as monitor
use Rattle.nut_monitor_spec.specs.Trace.{trace}
use Rattle.nut_fleet.specs.Schedule.{IsFront}
use Rattle.nut_fleet.specs.World.{Setup, monitor_of, keeps_all, kept_from}
use Rattle.nut_server_loop.specs.Served as served
use Rattle.nut_server_loop.specs.declared.types.Peer.{Peer}
use Rattle.nut_monitor_loop.specs.Watched as watched

-- Something that happened: an event in the history of the server, or in that of monitor m.
pub data Happening : Type 0 where
  AtServer : (event : arrivals.Event) → Happening
  AtMonitor : (m : ℕ) (event : events.Event) → Happening

-- Of all that happened, the newest first: the history of the server, and that of monitor m.
abbrev pub server_history : List Happening → List arrivals.Event
server_history [] = []
server_history (AtServer event ∷ run) = event ∷ server_history run
server_history (AtMonitor m event ∷ run) = server_history run

abbrev pub history : ℕ → List Happening → List events.Event
history m [] = []
history m (AtServer event ∷ run) = history m run
history m (AtMonitor n event ∷ run) = if n == m then event ∷ history m run else history m run

-- A network joins ends: the connection of the server that belongs to the k-th call of link i of monitor m. None if the
-- server never accepted that call.
abbrev pub Network : Type 0
Network = (m i k : ℕ) → Option ℕ

-- A connection belongs to one call.
abbrev pub IsNetwork : Network → Type 0
IsNetwork network = (m i k n j l c : ℕ) → network m i k ≡ Some c → network n j l ≡ Some c → (m ≡ n) × (i ≡ j) × (k ≡ l)

-- the number of calls of link i by a monitor with this history: how often it made the link
abbrev pub calls : ℕ → List events.Event → ℕ
calls i [] = 0
calls i (events.Linked j ∷ h) = if j == i then suc (calls i h) else calls i h
calls i (event ∷ h) = calls i h

-- A piece comes next: what was sent begins with the bytes that came, followed by this piece.
abbrev pub IsNext : List ℕ → List ℕ → List ℕ → Type 0
IsNext came piece sent = (piece ≢ []) × Begins (came ++ piece) sent

-- A reload changes no user, not MAXAGE, and no UPS that there is. It may add some.
abbrev pub IsHarmless : ServerConfiguration → List arrivals.Event → ServerConfiguration → Type 0
IsHarmless first h new = (kept_from first new ≡ new) × (keeps_all new.upses (server.numbering_of (server.content first h)) ≡ true)

-- What may happen next. Bytes come to an end of a call only if they are the next that the other end has sent in that call: in
-- any pieces, as late as you like, or never. A monitor had sent them when its history was `early`. Connections that belong to no
-- call may say anything, and so may drivers. Memory suffices at the monitors.
abbrev pub May : Setup → Network → List Happening → Happening → Type 0
May setup network run (AtServer (arrivals.Bytes c piece)) = (m i k : ℕ) → network m i k ≡ Some c →
    (early : List events.Event) × IsFront early (history m run) × (calls i early ≡ k)
    × IsNext (arrivals.input c (server_history run)) piece (monitor.sent (monitor_of setup m) i (trace (monitor_of setup m) early))
May setup network run (AtServer (arrivals.Reload new)) = IsHarmless setup.server (server_history run) new
May setup network run (AtServer event) = Unit {0}
May setup network run (AtMonitor m (events.LinkBytes i piece)) = (c : ℕ) × (network m i (calls i (history m run)) ≡ Some c)
    × IsNext (monitor.input i (trace (monitor_of setup m) (history m run))) piece (server.sent setup.server c (server_history run))
May setup network run (AtMonitor m (events.OutOfMemory i piece k)) = ⊥
May setup network run (AtMonitor m event) = Unit {0}

-- Right steps of the server's loop have this history. `serve` promises such steps (`Served`).
abbrev pub IsServed : ServerConfiguration → List arrivals.Event → Type 0
IsServed first h = (steps : List served.Step) × (owed : List Peer) × served.Told first steps owed × (served.history_of steps ≡ h)

-- Right steps of a monitor's loop have this history. `watch` promises such steps (`Watched`).
abbrev pub IsWatched : Configuration → List events.Event → Type 0
IsWatched first h = (steps : List watched.Step) × (owed : Option ℕ) × watched.Told first steps owed × (watched.history_of steps ≡ h)

-- One server and its monitors ran, each in its own loop, and a network carried their bytes.
pub record IsRun (setup : Setup) (network : Network) (run : List Happening) : Type 0 where
  pub joined : IsNetwork network
  pub carried : (next : Happening) (so_far : List Happening) → IsFront (next ∷ so_far) run → May setup network so_far next
  pub server : IsServed setup.server (server_history run)
  pub monitors : (m : ℕ) → m < length setup.monitors → IsWatched (monitor_of setup m) (history m run)
  pub no_others : (m : ℕ) → length setup.monitors ≤ m → history m run ≡ []
