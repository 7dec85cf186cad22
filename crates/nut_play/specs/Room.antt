-- What a fleet says of the whole schedule that it has played.
use Rattle.std.specs.Prelude.{ℕ, ◌≡◌, ◌+◌, ◌++◌, true, false, List, map, take, slice_get, Some}
use Rattle.std.specs.List.{AllByRecursion}
use Rattle.nut_conf.specs.declared.upsmon.MonConfig.{MonConfig}
use Rattle.nut_server_spec.specs.Configuration.{Configuration as ServerConfiguration}
use Rattle.nut_monitor_spec.specs.Configuration.{configuration_of}
use Rattle.nut_fleet.specs.Schedule as S
use Rattle.nut_fleet.specs.World.{Setup, is_fit, world}
use Rattle.nut_fleet.specs.Log.{Logged, log}
use Rattle.nut_fleet.specs.Fleet.{EventsAreAccepted, PipesCarryBeginnings, StatusesWereShown, ShutdownsHaveCauses, SupplySufficesBefore, PrimariesGoLast}
use Rattle.nut_play.specs.declared.types.Step.{Step}
use Rattle.nut_play.specs.declared.types.FleetFault.{FleetFault}
use Rattle.nut_play.specs.declared.types.FleetFault.TheVariants.{BadStep, Memory, Failed}
use Rattle.nut_play.specs.Lack.{MayLack}
use Rattle.nut_play.specs.Kept.{Kept, IsFleet}
use Rattle.nut_play.specs.Steps.{step_of, steps_of}

-- what a fleet is made with
abbrev pub setup_of : ServerConfiguration → List MonConfig → Setup
setup_of first monitors = record { server = first; monitors = map configuration_of monitors }

-- The fleet is that of the world to which this schedule leads.
abbrev pub HasPlayed : Setup → List S.Step → Kept → Type 0
HasPlayed setup schedule k = IsFleet setup (world setup schedule) k

-- each of these steps fits
abbrev pub AreFit : Setup → List S.Step → Type 0
AreFit setup steps = AllByRecursion (λ step. is_fit setup step ≡ true) steps

-- These steps, the newest first, were played after the steps `before`, and had this news.
pub record WerePlayed (setup : Setup) (before steps : List S.Step) (told : List Logged) (new : Kept) : Type 0 where
  pub fit : AreFit setup steps
  pub fleet : HasPlayed setup (steps ++ before) new
  pub log : told ≡ log setup before steps

-- The first n steps of a call were played, and the next one doesn't fit.
pub record StopsBehind (setup : Setup) (before : List S.Step) (schedule : List Step) (n : ℕ) (new : Kept) : Type 0 where
  pub fit : AreFit setup (steps_of (take n schedule))
  pub fleet : HasPlayed setup (steps_of (take n schedule) ++ before) new
  pub bad : (step : S.Step) × (slice_get (map step_of schedule) n ≡ Some step) × (is_fit setup step ≡ false)

-- The first n steps of a call fit, and so does the next one, at which memory may be lacking.
pub record LacksBehind (setup : Setup) (before : List S.Step) (schedule : List Step) (n : ℕ) : Type 0 where
  pub fit : AreFit setup (steps_of (take n schedule))
  pub lacks : (step : S.Step) × (slice_get (map step_of schedule) n ≡ Some step) × (is_fit setup step ≡ true)
      × MayLack setup (world setup (steps_of (take n schedule) ++ before)) step

-- Why a call of a fleet that hasn't failed stops: at a step that doesn't fit, or for a lack of memory at one that does.
abbrev pub IsFaultOf : Setup → List S.Step → List Step → FleetFault → Kept → Type 0
IsFaultOf setup before schedule (BadStep at) new = (n : ℕ) × (at ≡ n + 1) × StopsBehind setup before schedule n new
IsFaultOf setup before schedule (Memory at) new = (new.failed ≡ true) × (n : ℕ) × (at ≡ n + 1) × LacksBehind setup before schedule n
IsFaultOf setup before schedule Failed new = ⊥

-- What holds of a room after every schedule: every event was accepted; pipes carry what was put into them; each status
-- was shown; a monitor that began its shutdown had a cause; and one that left Forcing waited for more than HOSTSYNC, or
-- was alone.
pub record RoomHolds (setup : Setup) (schedule : List S.Step) : Type 0 where
  pub accepted : EventsAreAccepted setup (world setup schedule)
  pub pipes : PipesCarryBeginnings setup (world setup schedule)
  pub statuses : StatusesWereShown setup schedule
  pub causes : ShutdownsHaveCauses setup schedule
  pub supply : SupplySufficesBefore setup schedule
  pub primaries : PrimariesGoLast setup schedule

-- This holds whenever a fleet is that of a schedule's world.
abbrev pub RoomsHold : Type 0
RoomsHold = (setup : Setup) (schedule : List S.Step) (k : Kept) → HasPlayed setup schedule k → RoomHolds setup schedule
