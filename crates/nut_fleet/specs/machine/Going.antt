-- How a fleet that a program keeps continues with a step, and the news of that step.
use Rattle.std.specs.Prelude.{ℕ, ◌≡◌, ◌++◌, suc, Bool, true, if◌then◌else◌, List, [], ◌∷◌, length, take, drop, map}
use Rattle.nut_server_spec.specs.Event as arrivals
use Rattle.nut_server_spec.specs.Acceptance as server_tests
use Rattle.nut_server_spec.specs.machine.Machine as server_machine
use Rattle.nut_monitor_spec.specs.Event as events
use Rattle.nut_monitor_spec.specs.Content as knowledge
use Rattle.nut_monitor_spec.specs.Acceptance as monitor_tests
use Rattle.nut_monitor_spec.specs.machine.Machine as monitor_machine
use Rattle.nut_fleet.specs.Schedule.{Step, Out, Reach, Back, Land}
use Rattle.nut_fleet.specs.World.{Setup, Deed, Skip, Rest, Tell, Inform, Join, Renew, Meet, address_of, has_link, is_open, is_linked, is_fit, deed, for_monitor, world}
use Rattle.nut_fleet.specs.Log.{News, Skipped, Noticed, turned, news}
use Rattle.nut_fleet.specs.Moves.{reached, sent_off, landed, put_in}
use Rattle.nut_fleet.specs.Seen.{Ends, Fleet, Stands, Keeps, open_seen, linked_seen, deed_by}

-- ---- what counts

-- The fleet without the pipes to ends that are cut.
abbrev pub what_counts : Fleet → Fleet
what_counts f = record f {
  link = λ m i. record (f.link m i) {
    to_server = if open_seen f m i then (f.link m i).to_server else [];
    to_monitor = if linked_seen f m i then (f.link m i).to_monitor else [];
  };
}

-- ---- how it continues

abbrev pub told_on : arrivals.Event → Fleet → Fleet
told_on event f = record f { server = server_machine.advance f.server event }

-- what a monitor knows after its notices were taken
abbrev pub hushed : knowledge.Content → knowledge.Content
hushed s = record s { notices = [] }

abbrev pub informed_on : ℕ → events.Event → Fleet → Fleet
informed_on m event f = record f { monitor = for_monitor m (hushed (monitor_machine.advance (f.monitor m) event)) f.monitor }

abbrev pub with_ends : ℕ → ℕ → Ends → Fleet → Fleet
with_ends m i ends f = record f { link = for_monitor m (for_monitor i ends (f.link m)) f.link }

-- bytes are put into a pipe, unless its other end is cut
abbrev pub put_on : Bool → List ℕ → List ℕ → List ℕ
put_on there more bytes = if there then bytes ++ more else bytes

-- what is kept of a link after each of the four steps that move its bytes
abbrev pub ends_reached : Fleet → ℕ → ℕ → arrivals.Event → Ends
ends_reached f m i event =
    record (f.link m i) { to_server = drop (length (reached (f.link m i).connection event)) (f.link m i).to_server }

abbrev pub ends_back : Fleet → ℕ → ℕ → arrivals.Event → Ends
ends_back f m i event = record (f.link m i) {
  to_monitor =
      put_on (linked_seen f m i) (take (sent_off (f.link m i).connection event) (server_tests.waiting_of (f.link m i).connection f.server.sessions))
      (f.link m i).to_monitor;
}

abbrev pub ends_out : Fleet → ℕ → ℕ → events.Event → Ends
ends_out f m i event = record (f.link m i) {
  to_server =
      put_on (open_seen f m i) (take (put_in i event) (monitor_tests.waiting_on (monitor_tests.watch_at i (f.monitor m).watches)))
      (f.link m i).to_server;
}

abbrev pub ends_landed : Fleet → ℕ → ℕ → events.Event → Ends
ends_landed f m i event = record (f.link m i) { to_monitor = drop (length (landed i event)) (f.link m i).to_monitor }

abbrev pub ends_made : Fleet → Ends
ends_made f = record { connection = suc f.server.opened; to_server = []; to_monitor = [] }

-- what is kept after a step that does this
abbrev pub moved_by : Fleet → Deed → Step → Fleet
moved_by f Skip step = f
moved_by f Rest step = f
moved_by f (Tell event) (Reach m i n) = with_ends m i (ends_reached f m i event) (told_on event f)
moved_by f (Tell event) (Back m i n) = with_ends m i (ends_back f m i event) (told_on event f)
moved_by f (Tell event) step = told_on event f
moved_by f (Inform k event) (Out m i n) = with_ends m i (ends_out f m i event) (informed_on m event f)
moved_by f (Inform k event) (Land m i n) = with_ends m i (ends_landed f m i event) (informed_on m event f)
moved_by f (Inform m event) step = informed_on m event f
moved_by f (Renew m i) step = f
moved_by f (Meet m i c) step = f
moved_by f (Join m i) step = with_ends m i (ends_made f) (informed_on m (events.Linked i) (told_on (arrivals.Open (address_of m)) f))

abbrev pub moved_on : Fleet → Step → Fleet
moved_on f step = moved_by f (deed_by f step) step

-- ---- its news

abbrev pub heard_news : ℕ → knowledge.Content → events.Event → List News
heard_news m s event =
    map (Noticed m) (monitor_machine.advance s event).notices
    ++ turned m (knowledge.phase_of s) (knowledge.phase_of (monitor_machine.advance s event))

abbrev pub news_by : Fleet → Deed → List News
news_by f Skip = Skipped ∷ []
news_by f Rest = []
news_by f (Tell event) = []
news_by f (Inform m event) = heard_news m (f.monitor m) event
news_by f (Join m i) = heard_news m (f.monitor m) (events.Linked i)
news_by f (Renew m i) = []
news_by f (Meet m i c) = []

abbrev pub news_seen : Fleet → Step → List News
news_seen f step = news_by f (deed_by f step)

-- ---- the laws

-- A fleet that is that of a world continues to that of the world after the step, has the news that the step has there, and does
-- what the step does there.
pub record FleetsGoOn (setup : Setup) (schedule : List Step) : Type 0 where
  pub goes_on : (f : Fleet) (step : Step) → is_fit setup step ≡ true → Keeps setup (world setup schedule) f →
      Keeps setup (world setup (step ∷ schedule)) (moved_on f step)
  pub tells : (f : Fleet) (step : Step) → is_fit setup step ≡ true → Keeps setup (world setup schedule) f →
      news_seen f step ≡ news setup (world setup schedule) step
  pub does : (f : Fleet) (step : Step) → is_fit setup step ≡ true → Keeps setup (world setup schedule) f →
      deed_by f step ≡ deed setup (world setup schedule) step
  pub ends : (f : Fleet) → Keeps setup (world setup schedule) f → (m i : ℕ) → has_link setup m i ≡ true →
      (open_seen f m i ≡ is_open setup (world setup schedule) m i) × (linked_seen f m i ≡ is_linked setup (world setup schedule) m i)
  pub counts : (f : Fleet) → Keeps setup (world setup schedule) f → Stands setup (world setup schedule) (what_counts f)
  pub kept : (f : Fleet) → Stands setup (world setup schedule) (what_counts f) → Keeps setup (world setup schedule) f
