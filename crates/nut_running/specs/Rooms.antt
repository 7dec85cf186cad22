-- A room that runs is a room: what holds of schedules holds of it.
use Rattle.std.specs.Prelude.{ℕ, ◌≡◌, List}
use Rattle.nut_monitor_spec.specs.Trace.{trace, notices_waiting}
use Rattle.nut_fleet.specs.Fleet.{IsSetup, StatusesWereShown, ShutdownsHaveCauses, SupplySufficesBefore, PrimariesGoLast}
use Rattle.nut_fleet.specs.Halting.{NobodyElseHalts, FsdsFollowShutdowns, NobodyStops}
use Rattle.nut_fleet.specs.Schedule.{Step, IsFront}
use Rattle.nut_fleet.specs.World.{Setup, World, monitor_of, all_taken, world}
use Rattle.nut_running.specs.Running.{Happening, server_history, history, Network, IsRun}

-- A world has the histories of a run, with the notices that wait at each monitor handed over.
pub record Has (setup : Setup) (run : List Happening) (w : World) : Type 0 where
  pub server : w.server ≡ server_history run
  pub monitors : (m : ℕ) → w.monitor m ≡ all_taken (notices_waiting (trace (monitor_of setup m) (history m run))) (history m run)

-- A schedule leads to the histories of a run, and at each time before to those of the run at some time before.
pub record IsRoom (setup : Setup) (run : List Happening) (schedule : List Step) : Type 0 where
  pub now : Has setup run (world setup schedule)
  pub before : (early : List Step) → IsFront early schedule →
      (so_far : List Happening) × IsFront so_far run × Has setup so_far (world setup early)

-- Each run has a schedule that leads to it, and the laws of rooms hold of that schedule.
abbrev pub RunningRoomsAreRooms : Type 0
RunningRoomsAreRooms = (setup : Setup) (network : Network) (run : List Happening) → IsSetup setup → IsRun setup network run →
    (schedule : List Step) × IsRoom setup run schedule
    × StatusesWereShown setup schedule × ShutdownsHaveCauses setup schedule × SupplySufficesBefore setup schedule
    × PrimariesGoLast setup schedule × NobodyElseHalts setup schedule × FsdsFollowShutdowns setup schedule × NobodyStops setup schedule
