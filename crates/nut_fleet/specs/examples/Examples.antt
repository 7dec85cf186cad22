-- The news of some schedules. Each example is computed from the definitions.
use Rattle.std.specs.Prelude.{◌≡◌, ℕ, zero, suc, List, [], ◌∷◌, ◌++◌, codes, map, reverse, true, false, Some, None}
use Rattle.nut_words.specs.Quoting.{quoted}
use Rattle.nut_conf.specs.declared.users.Role.TheVariants as roles
use Rattle.nut_conf.specs.declared.notice.Notice.TheVariants as kinds
use Rattle.nut_monitor_spec.specs.declared.Phase.TheVariants.{Forcing, Final, Halted}
use Rattle.nut_monitor_spec.specs.Configuration.{Configuration, with_defaults}
use Rattle.nut_monitor_spec.specs.Decision.{told, shutdown_told}
use Rattle.nut_monitor_spec.specs.Trace.{status}
use Rattle.nut_server_spec.specs.Configuration.{Ups, User}
use Rattle.nut_server_spec.specs.Content.{past}
use Rattle.nut_server_spec.specs.Event.{Open, Bytes, Close, Reload}
use Rattle.nut_fleet.specs.Schedule.{Step, ServerClock, MonitorClock, Up, Driver, Down, Link, Out, Reach, Back, Land, CutServer, CutMonitor, Call, Accept, Other}
use Rattle.nut_fleet.specs.World.{Setup, World, served, world, seen, to_server, to_monitor}
use Rattle.nut_fleet.specs.Log.{Logged, News, Skipped, Noticed, Moved, log}
use Rattle.nut_fleet.specs.Shown.{shown_status, logins}

abbrev pub primary : Configuration
primary = with_defaults (record { ups = codes "su700"; power = 1; user = codes "mon"; password = codes "m1"; primary = true } ∷ [])

-- one UPS, one user, and one monitor
abbrev pub alone : Setup
alone = record {
  server = record {
    upses = record { name = codes "su700"; driver = codes "dummy-ups"; description = codes "Server room" } ∷ [];
    users = record { name = codes "mon"; password = Some (codes "m1"); actions = []; commands = []; role = Some roles.Primary } ∷ [];
    max_age = 15;
    most_connections = 256;
    variable_texts = [];
    command_texts = [];
  };
  monitors = primary ∷ [];
}

-- a second monitor, whose machine isn't the primary
abbrev pub secondary : Configuration
secondary = record primary { lines = record { ups = codes "su700"; power = 1; user = codes "mon"; password = codes "m1"; primary = false } ∷ [] }

abbrev pub pair : Setup
pair = record alone { monitors = primary ∷ secondary ∷ [] }

-- n queries of monitor m and their answers, one after the other
abbrev pub rounds : ℕ → ℕ → List Step
rounds m zero = []
rounds m (suc n) = Out m 0 512 ∷ Reach m 0 512 ∷ Back m 0 512 ∷ Land m 0 512 ∷ rounds m n

-- the driver of the UPS reports this status
abbrev pub says : List ℕ → Step
says status = Driver 0 (codes "SETINFO ups.status " ++ quoted status)

-- the driver of the UPS connects, reports this status and ends its dump
abbrev pub live : List ℕ → List Step
live status = Up 0 ∷ says status ∷ Driver 0 (codes "DATAOK") ∷ Driver 0 (codes "DUMPDONE") ∷ []

-- another client connects, and then says these lines, if its connection has this number
abbrev pub comes : Step
comes = Other (Open (codes "10.0.0.9"))

abbrev pub says_lines : ℕ → List (List ℕ) → Step
says_lines c lines = Other (Bytes c (joined lines))
  where
    joined : List (List ℕ) → List ℕ
    joined [] = []
    joined (line ∷ lines) = line ++ 10 ∷ joined lines

-- it logs in to the UPS
abbrev pub logs_in : ℕ → Step
logs_in c = says_lines c (codes "USERNAME mon" ∷ codes "PASSWORD m1" ∷ codes "LOGIN su700" ∷ [])

-- A switch restarts: the monitor, which is logged in on connection 1, loses its end and calls again, and the server,
-- which still has its end, accepts the call as connection 2.
abbrev pub calls_again : List Step
calls_again = Link 0 0 ∷ rounds 0 3 ++ CutMonitor 0 0 ∷ Call 0 0 ∷ comes ∷ Accept 0 0 2 ∷ rounds 0 3

-- a server that is full with one connection
abbrev pub narrow : Setup
narrow = record alone { server = record alone.server { most_connections = 1 } }

-- The server reads files again that have these UPSes with this driver, and no users.
abbrev pub rereads_as : List (List ℕ) → List ℕ → Step
rereads_as names driver =
    Other (Reload (record alone.server { upses = map (λ name. record { name = name; driver = driver; description = codes "Rack 2" }) names; users = [] }))

-- There is another UPS, before the one that there was.
abbrev pub rereads : Step
rereads = rereads_as (codes "aux" ∷ codes "su700" ∷ []) (codes "dummy-ups")

-- the world after these steps, and their news; here the oldest step comes first
abbrev pub world_of : Setup → List Step → World
world_of setup steps = world setup (reverse steps)

abbrev pub told_by : Setup → List Step → List Logged
told_by setup steps = log setup [] (reverse steps)

abbrev pub at : ℕ → News → Logged
at k news = record { step = k; news = news }

pub record FleetExamples : Type 0 where
  -- a primary whose UPS is on a low battery forces the shutdown, counts the logins and halts; a link that is up isn't
  -- made again
  pub primary_alone :
      told_by alone (live (codes "OB LB") ++ Link 0 0 ∷ rounds 0 7 ++ MonitorClock 0 5 ∷ Link 0 0 ∷ [])
      ≡ at 25 (Noticed 0 (told kinds.Onbatt 0)) ∷ at 25 (Noticed 0 (told kinds.Lowbatt 0)) ∷ at 25 (Moved 0 Forcing)
      ∷ at 33 (Noticed 0 shutdown_told) ∷ at 33 (Moved 0 Final) ∷ at 34 (Moved 0 (Halted true)) ∷ at 35 Skipped ∷ []
  -- while another monitor is logged in and hears nothing any more, the primary waits until more than HOSTSYNC has
  -- passed
  pub primary_waits :
      told_by pair (live (codes "OL") ++ Link 0 0 ∷ rounds 0 5 ++ Link 1 0 ∷ rounds 1 4 ++ says (codes "OB LB") ∷ MonitorClock 0 10 ∷ rounds 0 3
      ++ MonitorClock 0 25 ∷ MonitorClock 0 26 ∷ MonitorClock 0 31 ∷ [])
      ≡ at 48 (Noticed 0 (told kinds.Onbatt 0)) ∷ at 48 (Noticed 0 (told kinds.Lowbatt 0)) ∷ at 48 (Moved 0 Forcing)
      ∷ at 58 (Noticed 0 shutdown_told) ∷ at 58 (Moved 0 Final) ∷ at 59 (Moved 0 (Halted true)) ∷ []
  -- no bytes move at an end that is cut, and a driver that isn't connected cannot disconnect: these steps are skipped
  pub cut_ends :
      told_by alone (Out 0 0 9 ∷ Reach 0 0 9 ∷ Back 0 0 9 ∷ Land 0 0 9 ∷ CutServer 0 0 ∷ CutMonitor 0 0 ∷ Down 0 ∷ Link 0 0 ∷ Reach 0 0 9 ∷ Out 0 0 0 ∷ CutServer 0 0
      ∷ Link 0 0 ∷ Reach 0 0 9 ∷ Out 0 0 9 ∷ CutMonitor 0 0 ∷ Link 0 0 ∷ [])
      ≡ at 1 Skipped ∷ at 2 Skipped ∷ at 3 Skipped ∷ at 4 Skipped ∷ at 5 Skipped ∷ at 6 Skipped ∷ at 7 Skipped
      ∷ at 12 Skipped ∷ at 13 Skipped ∷ at 15 (Noticed 0 (told kinds.Commbad 0)) ∷ []
  -- another client may say anything on its own connection, and nothing on that of a link
  pub others :
      told_by alone (comes ∷ Link 0 0 ∷ says_lines 1 (codes "FSD su700" ∷ []) ∷ says_lines 2 (codes "FSD su700" ∷ []) ∷ rereads ∷ []) ≡ at 4 Skipped ∷ []
  -- a reload adds a UPS, and leaves the number of the other; none takes a UPS away, or gives it another driver
  pub added : map (λ (ups : Ups). ups.name) (served alone (world_of alone (rereads ∷ []))).configuration.upses ≡ codes "aux" ∷ codes "su700" ∷ []
  pub numbered : (served alone (world_of alone (rereads ∷ []))).numbers ≡ 1 ∷ 0 ∷ []
  pub users_stay : map (λ (user : User). user.name) (served alone (world_of alone (rereads ∷ []))).configuration.users ≡ codes "mon" ∷ []
  pub none_goes :
      told_by alone (rereads_as (codes "aux" ∷ []) (codes "dummy-ups") ∷ rereads_as (codes "su700" ∷ []) (codes "other") ∷ []) ≡ at 1 Skipped ∷ at 2 Skipped ∷ []
  -- bytes that a monitor put into its pipe before its end was cut still reach the server; a new link's pipes are empty
  pub in_the_pipe : to_server alone (world_of alone (Link 0 0 ∷ Out 0 0 5 ∷ CutMonitor 0 0 ∷ [])) 0 0 ≡ codes "USERN"
  pub on_its_way : to_server alone (world_of alone (Link 0 0 ∷ Out 0 0 5 ∷ CutMonitor 0 0 ∷ Reach 0 0 3 ∷ [])) 0 0 ≡ codes "RN"
  pub new_link : to_server alone (world_of alone (Link 0 0 ∷ Out 0 0 5 ∷ CutMonitor 0 0 ∷ CutServer 0 0 ∷ Link 0 0 ∷ [])) 0 0 ≡ []
  pub lost_there : to_server alone (world_of alone (Link 0 0 ∷ Out 0 0 5 ∷ CutServer 0 0 ∷ Out 0 0 5 ∷ [])) 0 0 ≡ []
  pub answer_lost :
      to_monitor alone (world_of alone (Link 0 0 ∷ Out 0 0 99 ∷ Reach 0 0 99 ∷ CutMonitor 0 0 ∷ Back 0 0 99 ∷ CutServer 0 0 ∷ Link 0 0 ∷ [])) 0 0 ≡ []
  -- a login counts until the server closes its end, though the monitor has logged in again
  pub twice_in : logins alone.server (past alone.server (world_of alone calls_again).server) (codes "su700") ≡ 1 ∷ 2 ∷ []
  pub once_in : logins alone.server (past alone.server (world_of alone (calls_again ++ Other (Close 1) ∷ [])).server) (codes "su700") ≡ 2 ∷ []
  -- a server that is full accepts no call, and the monitor loses its end again
  pub full :
      told_by narrow (Link 0 0 ∷ CutMonitor 0 0 ∷ Call 0 0 ∷ comes ∷ Accept 0 0 2 ∷ CutMonitor 0 0 ∷ [])
      ≡ at 2 (Noticed 0 (told kinds.Commbad 0)) ∷ at 4 Skipped ∷ at 5 Skipped ∷ []
  -- what a monitor puts into its pipe waits until the server accepts the call, which it may have done before
  pub not_yet : to_server alone (world_of alone (Call 0 0 ∷ Out 0 0 512 ∷ [])) 0 0 ≡ []
  pub accepted : to_server alone (world_of alone (Call 0 0 ∷ Out 0 0 512 ∷ comes ∷ Accept 0 0 1 ∷ [])) 0 0 ≡ codes "USERNAME mon" ++ 10 ∷ []
  pub accepted_before : told_by alone (comes ∷ Call 0 0 ∷ Accept 0 0 1 ∷ Call 0 0 ∷ rounds 0 1) ≡ at 4 Skipped ∷ []
  -- on a connection that was given up only that arrives which was on its way
  pub given_up :
      told_by alone (Link 0 0 ∷ Out 0 0 5 ∷ CutMonitor 0 0 ∷ Call 0 0 ∷ Other (Bytes 1 (codes "FSD")) ∷ Other (Bytes 1 (codes "USE"))
      ∷ Other (Bytes 1 (codes "RNA")) ∷ Other (Bytes 1 (codes "RN")) ∷ [])
      ≡ at 3 (Noticed 0 (told kinds.Commbad 0)) ∷ at 5 Skipped ∷ at 7 Skipped ∷ []
  -- no link gets a connection that it gave up, one on which something came, or another's
  pub its_old_one : told_by alone (Link 0 0 ∷ CutMonitor 0 0 ∷ Call 0 0 ∷ Accept 0 0 1 ∷ []) ≡ at 2 (Noticed 0 (told kinds.Commbad 0)) ∷ at 4 Skipped ∷ []
  pub a_clients : told_by alone (comes ∷ says_lines 1 (codes "VER" ∷ []) ∷ Call 0 0 ∷ Accept 0 0 1 ∷ []) ≡ at 4 Skipped ∷ []
  pub anothers : told_by pair (Link 0 0 ∷ Call 1 0 ∷ Accept 1 0 1 ∷ []) ≡ at 3 Skipped ∷ []
  -- the status that the monitor reads is the one that the server shows
  pub status_read : status 0 (seen alone (world_of alone (live (codes "OL CHRG") ++ Link 0 0 ∷ rounds 0 5)) 0) ≡ Some (codes "OL" ∷ codes "CHRG" ∷ [])
  pub status_shown :
      shown_status alone.server (past alone.server (world_of alone (live (codes "OL CHRG") ++ Link 0 0 ∷ rounds 0 3)).server) (codes "su700")
      ≡ Some (codes "OL" ∷ codes "CHRG" ∷ [])
  pub stale : shown_status alone.server (past alone.server (world_of alone (live (codes "OL") ++ ServerClock 16 ∷ [])).server) (codes "su700") ≡ None
  pub logged_in : logins alone.server (past alone.server (world_of alone (Link 0 0 ∷ rounds 0 3)).server) (codes "su700") ≡ 1 ∷ []
  pub both_logged_in :
      logins alone.server (past alone.server (world_of alone (comes ∷ logs_in 1 ∷ Link 0 0 ∷ rounds 0 3)).server) (codes "su700") ≡ 1 ∷ 2 ∷ []
