-- How a step changes what the code keeps of a fleet, and its news.
use Rattle.std.specs.Prelude.{ℕ, zero, suc, ◌++◌, min, Bool, true, false, not, ◌&&◌, nat_lt, if◌then◌else◌, List, [], ◌∷◌, length, take, drop, slice_get, is_some, is_none}
use Rattle.nut_words.specs.Bytes.{line_feed}
use Rattle.nut_words.specs.declared.limits.TheConstants.{PIECE_MAX}
use Rattle.nut_server_spec.specs.Event as arrivals
use Rattle.nut_server_spec.specs.Content as server
use Rattle.nut_server_spec.specs.Acceptance as server_tests
use Rattle.nut_server_spec.specs.machine.Machine as server_machine
use Rattle.nut_monitor_spec.specs.Event as events
use Rattle.nut_monitor_spec.specs.Content as knowledge
use Rattle.nut_monitor_spec.specs.Acceptance as monitor_tests
use Rattle.nut_monitor_spec.specs.machine.Machine as monitor_machine
use Rattle.nut_monitor.specs.Monitors.{MonitorValue}
use Rattle.nut_fleet.specs.Schedule.{Step, ServerClock, MonitorClock, Up, Driver, Down, Link, Out, Reach, Back, Land, CutServer, CutMonitor}
use Rattle.nut_fleet.specs.World.{Deed, Skip, Tell, Inform, Join, carried, counted, moved, address_of}
use Rattle.nut_fleet.specs.Log.{News}
use Rattle.nut_fleet.specs.Moves.{reached, sent_off, landed, put_in}
use Rattle.nut_fleet.specs.Seen.{Ends}
use Rattle.nut_fleet.specs.machine.Going.{hushed, put_on, heard_news}
use Rattle.nut_play.specs.Kept.{Seat, Kept, ends_at, known_in, links_in}

-- ---- what a step does, by the server and a link, by the monitor, or by both

abbrev pub is_played : Deed → Bool
is_played Skip = false
is_played d = true

abbrev pub tell_by : server.Content → arrivals.Event → Deed
tell_by s event = if is_none (server_tests.refusal s event) then Tell event else Skip

abbrev pub inform_by : ℕ → knowledge.Content → events.Event → Deed
inform_by m s event = if is_none (monitor_tests.refusal s event) then Inform m event else Skip

abbrev pub open_by : server.Content → Ends → Bool
open_by s ends = is_some (server_tests.session_of ends.connection s.sessions)

abbrev pub linked_by : knowledge.Content → ℕ → Bool
linked_by s i = monitor_tests.is_linked (monitor_tests.watch_at i s.watches)

abbrev pub waits_by : knowledge.Content → ℕ → List ℕ
waits_by s i = monitor_tests.waiting_on (monitor_tests.watch_at i s.watches)

abbrev pub reach_by : server.Content → Ends → ℕ → Deed
reach_by s ends n =
    if open_by s ends then carried (take (min n PIECE_MAX) ends.to_server) (λ piece. tell_by s (arrivals.Bytes ends.connection piece)) else Skip

abbrev pub back_by : server.Content → Ends → ℕ → Deed
back_by s ends n =
    if open_by s ends
    then counted (moved n (server_tests.waiting_of ends.connection s.sessions)) (λ k. tell_by s (arrivals.Took ends.connection k)) else Skip

abbrev pub out_by : ℕ → knowledge.Content → ℕ → ℕ → Deed
out_by m s i n = if linked_by s i then counted (moved n (waits_by s i)) (λ k. inform_by m s (events.LinkTook i k)) else Skip

abbrev pub land_by : ℕ → knowledge.Content → ℕ → Ends → ℕ → Deed
land_by m s i ends n =
    if linked_by s i then carried (take (min n PIECE_MAX) ends.to_monitor) (λ piece. inform_by m s (events.LinkBytes i piece)) else Skip

abbrev pub link_by : ℕ → server.Content → knowledge.Content → ℕ → Ends → Deed
link_by m s t i ends =
    if not (open_by s ends) && not (linked_by t i) && is_none (server_tests.refusal s (arrivals.Open (address_of m))) then Join m i else Skip

-- ---- how it changes each of these

abbrev pub told_by : Deed → ℕ → server.Content → server.Content
told_by (Tell event) m s = server_machine.advance s event
told_by (Join k i) m s = server_machine.advance s (arrivals.Open (address_of m))
told_by d m s = s

abbrev pub heard_by : Deed → knowledge.Content → knowledge.Content
heard_by (Inform m event) s = hushed (monitor_machine.advance s event)
heard_by (Join m i) s = hushed (monitor_machine.advance s (events.Linked i))
heard_by d s = s

abbrev pub told_news : Deed → knowledge.Content → List News
told_news (Inform m event) s = heard_news m s event
told_news (Join m i) s = heard_news m s (events.Linked i)
told_news d s = []

abbrev pub reached_by : Deed → Ends → Ends
reached_by (Tell event) ends = record ends { to_server = drop (length (reached ends.connection event)) ends.to_server }
reached_by d ends = ends

abbrev pub back_put : Deed → Bool → server.Content → Ends → Ends
back_put (Tell event) linked s ends = record ends {
  to_monitor = put_on linked (take (sent_off ends.connection event) (server_tests.waiting_of ends.connection s.sessions)) ends.to_monitor;
}
back_put d linked s ends = ends

abbrev pub out_put : Deed → ℕ → Bool → List ℕ → Ends → Ends
out_put (Inform m event) i up waits ends = record ends { to_server = put_on up (take (put_in i event) waits) ends.to_server }
out_put d i up waits ends = ends

abbrev pub landed_by : Deed → ℕ → Ends → Ends
landed_by (Inform m event) i ends = record ends { to_monitor = drop (length (landed i event)) ends.to_monitor }
landed_by d i ends = ends

abbrev pub made_by : Deed → server.Content → Ends → Ends
made_by (Join m i) s ends = record { connection = suc s.opened; to_server = []; to_monitor = [] }
made_by d s ends = ends

-- ---- a seat, and all seats

abbrev pub changed_at : {A : Type 0} → ℕ → (A → A) → List A → List A
changed_at i change [] = []
changed_at zero change (x ∷ xs) = change x ∷ xs
changed_at (suc i) change (x ∷ xs) = x ∷ changed_at i change xs

abbrev pub heard_monitor : Deed → MonitorValue → MonitorValue
heard_monitor d v = record { config = v.config; content = heard_by d v.content }

abbrev pub hear_seat : ℕ → events.Event → Seat → Seat
hear_seat m event seat = record { monitor = heard_monitor (inform_by m seat.monitor.content event) seat.monitor; links = seat.links }

abbrev pub reach_seat : server.Content → ℕ → ℕ → Seat → Seat
reach_seat s i n seat = record {
  monitor = seat.monitor;
  links = changed_at i (reached_by (reach_by s (ends_at seat.links i) n)) seat.links;
}

abbrev pub back_seat : server.Content → ℕ → ℕ → Seat → Seat
back_seat s i n seat = record {
  monitor = seat.monitor;
  links = changed_at i (back_put (back_by s (ends_at seat.links i) n) (linked_by seat.monitor.content i) s) seat.links;
}

abbrev pub out_seat : server.Content → ℕ → ℕ → ℕ → Seat → Seat
out_seat s m i n seat =
    let d = out_by m seat.monitor.content i n in record {
      monitor = heard_monitor d seat.monitor;
      links = changed_at i (out_put d i (open_by s (ends_at seat.links i)) (waits_by seat.monitor.content i)) seat.links;
    }

abbrev pub land_seat : ℕ → ℕ → ℕ → Seat → Seat
land_seat m i n seat =
    let d = land_by m seat.monitor.content i (ends_at seat.links i) n in record {
      monitor = heard_monitor d seat.monitor;
      links = changed_at i (landed_by d i) seat.links;
    }

abbrev pub join_seat : server.Content → ℕ → ℕ → Seat → Seat
join_seat s m i seat =
    let d = link_by m s seat.monitor.content i (ends_at seat.links i) in record {
      monitor = heard_monitor d seat.monitor;
      links = changed_at i (made_by d s) seat.links;
    }

-- ---- all after a step

abbrev pub told_to : Kept → arrivals.Event → Kept
told_to k event = record k { server = told_by (tell_by k.server event) 0 k.server }

abbrev pub with_seat : Kept → ℕ → (Seat → Seat) → Kept
with_seat k m change = record { server = k.server; seats = changed_at m change k.seats; failed = k.failed }

abbrev pub link_of : Kept → ℕ → ℕ → Ends
link_of k m i = ends_at (links_in (slice_get k.seats m)) i

abbrev pub known_of : Kept → ℕ → knowledge.Content
known_of k m = known_in (slice_get k.seats m)

abbrev pub reach_next : Kept → ℕ → ℕ → ℕ → Kept
reach_next k m i n = record {
  server = told_by (reach_by k.server (link_of k m i) n) 0 k.server;
  seats = changed_at m (reach_seat k.server i n) k.seats;
  failed = k.failed;
}

abbrev pub back_next : Kept → ℕ → ℕ → ℕ → Kept
back_next k m i n = record {
  server = told_by (back_by k.server (link_of k m i) n) 0 k.server;
  seats = changed_at m (back_seat k.server i n) k.seats;
  failed = k.failed;
}

abbrev pub join_next : Kept → ℕ → ℕ → Kept
join_next k m i = record {
  server = told_by (link_by m k.server (known_of k m) i (link_of k m i)) m k.server;
  seats = changed_at m (join_seat k.server m i) k.seats;
  failed = k.failed;
}

abbrev pub next : Kept → Step → Kept
next k (ServerClock t) = told_to k (arrivals.Moment t)
next k (MonitorClock m t) = with_seat k m (hear_seat m (events.Moment t))
next k (Up u) = told_to k (arrivals.DriverUp u)
next k (Driver u line) = told_to k (arrivals.DriverBytes u (line ++ line_feed ∷ []))
next k (Down u) = told_to k (arrivals.DriverDown u)
next k (Link m i) = join_next k m i
next k (Out m i n) = with_seat k m (out_seat k.server m i n)
next k (Reach m i n) = reach_next k m i n
next k (Back m i n) = back_next k m i n
next k (Land m i n) = with_seat k m (land_seat m i n)
next k (CutServer m i) = told_to k (arrivals.Close (link_of k m i).connection)
next k (CutMonitor m i) = with_seat k m (hear_seat m (events.LinkLost i))
next k step = k

-- what a monitor reports at a step, if it has an event
abbrev pub said : Kept → Step → List News
said k (MonitorClock m t) = told_news (inform_by m (known_of k m) (events.Moment t)) (known_of k m)
said k (Link m i) = told_news (link_by m k.server (known_of k m) i (link_of k m i)) (known_of k m)
said k (Out m i n) = told_news (out_by m (known_of k m) i n) (known_of k m)
said k (Land m i n) = told_news (land_by m (known_of k m) i (link_of k m i) n) (known_of k m)
said k (CutMonitor m i) = told_news (inform_by m (known_of k m) (events.LinkLost i)) (known_of k m)
said k step = []

-- whether a step fits: what it names exists, and its line isn't too long
abbrev pub fits_link : Kept → ℕ → ℕ → Bool
fits_link k m i = nat_lt m (length k.seats) && nat_lt i (length (links_in (slice_get k.seats m))) && nat_lt i (length (known_of k m).watches)

abbrev pub fits : Kept → Step → Bool
fits k (ServerClock t) = true
fits k (MonitorClock m t) = nat_lt m (length k.seats)
fits k (Up u) = nat_lt u (length k.server.configuration.upses)
fits k (Driver u line) = nat_lt u (length k.server.configuration.upses) && nat_lt (length line) PIECE_MAX
fits k (Down u) = nat_lt u (length k.server.configuration.upses)
fits k (Link m i) = fits_link k m i
fits k (Out m i n) = fits_link k m i
fits k (Reach m i n) = fits_link k m i
fits k (Back m i n) = fits_link k m i
fits k (Land m i n) = fits_link k m i
fits k (CutServer m i) = fits_link k m i
fits k (CutMonitor m i) = fits_link k m i
fits k step = false
