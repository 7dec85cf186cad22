-- What one watch leads to, and the watches so far.
use Rattle.std.specs.Prelude.{◌≡◌, ◌⊎◌, true, List, [], Option, option_map}
use Rattle.std.specs.List.{AllByRecursion}
use Rattle.nut_conf.specs.declared.upsmon.MonConfig.{MonConfig}
use Rattle.nut_monitor.specs.Monitors.{MonitorValue}
use Rattle.nut_monitor_spec.specs.declared.Notice.{Notice}
use Rattle.nut_monitor_spec.specs.declared.Phase.{Phase}
use Rattle.nut_monitor_spec.specs.Configuration.{configuration_of}
use Rattle.nut_monitor_spec.specs.Decision.{is_halted}
use Rattle.nut_monitor_spec.specs.Trace.{notices, trace}
use Rattle.nut_monitor_loop.specs.Record.{Entry}
use Rattle.nut_monitor_loop.specs.Watched.{Step, entries_of, handed, history_of}
use Rattle.nut_upsmon.specs.declared.beginning.Beginning.{Beginning}
use Rattle.nut_upsmon.specs.Acts.{Act, IfTold}
use Rattle.nut_upsmon.specs.Course.{AreReloads, GoesOn, IsTold, IsWatch, Ran, Watch, last_phase, monitor_after, tellings, told_all, told_in_turn}
use Rattle.nut_upsmon.specs.inside.Ready.{IsFollowed, IsReady}

-- a watch of this configuration
abbrev pub watch_of : MonConfig → List Step → List Notice → Watch
watch_of config steps given = record { config = config; steps = steps; given = given }

-- A monitor of this configuration said this phase at last, the machine has to be halted or its world ended, and that was handed
-- all its notices.
pub record Whole (config : MonConfig) (Did : List Entry → Type 0) (Ended : MonitorValue → Type 0) (phase : Phase) : Type 0 where
  pub steps : List Step
  pub did : Did (entries_of steps)
  pub is : IsWatch (watch_of config steps [])
  pub says : last_phase (watch_of config steps []) ≡ phase
  pub ended : (is_halted phase ≡ true) ⊎ Ended (monitor_after (watch_of config steps []))
  pub handed_all : handed (entries_of steps) ≡ notices (trace (configuration_of config) (history_of steps))

-- A monitor of this configuration didn't say that the machine has to be halted.
pub record Broken (config : MonConfig) (Did : List Entry → Type 0) : Type 0 where
  pub steps : List Step
  pub did : Did (entries_of steps)
  pub is : IsWatch (watch_of config steps [])
  pub going : GoesOn (watch_of config steps [])

-- A watch of this configuration led from the first state to the last, and its monitor said this phase. The machine has to be
-- halted, or another watch may take the place of this one.
pub record Leads {W : Type 0} (Did : MonConfig → W → W → List Entry → Type 0) (Turns : W → W → Type 0) (acts : W → Option (List Act))
    (upcoming : W → Option Beginning) (config : MonConfig) (first last : W) (phase : Phase) : Type 0 where
  pub steps : List Step
  pub given : List Notice
  pub begun : W
  pub begins : Turns first begun
  pub did : Did config begun last (entries_of steps)
  pub is : IsWatch (watch_of config steps given)
  pub says : last_phase (watch_of config steps given) ≡ phase
  pub ended : (is_halted phase ≡ true) ⊎ IsFollowed (upcoming last) (monitor_after (watch_of config steps given))
  pub tells : IsTold (watch_of config steps given)
  pub told : IfTold (option_map tellings (acts last)) (told_all config given (option_map tellings (acts first)))

-- A watch of this configuration failed on the way, and its monitor didn't say that the machine has to be halted.
pub record Fails {W : Type 0} (Did : MonConfig → W → W → List Entry → Type 0) (Turns : W → W → Type 0) (config : MonConfig) (first last : W) : Type 0 where
  pub steps : List Step
  pub begun : W
  pub begins : Turns first begun
  pub did : Did config begun last (entries_of steps)
  pub is : IsWatch (watch_of config steps [])
  pub going : GoesOn (watch_of config steps [])

-- Watches led from `old` to `world`, none of whose monitors said that the machine has to be halted. The next one is of this
-- configuration.
pub record Running {W : Type 0} (Did : MonConfig → W → W → List Entry → Type 0) (Turns : W → W → Type 0) (acts : W → Option (List Act))
    (upcoming : W → Option Beginning) (old world : W) (config : MonConfig) : Type 0 where
  pub watches : List Watch
  pub ran : Ran Did Turns watches old world
  pub each : AllByRecursion IsWatch watches
  pub going : AllByRecursion GoesOn watches
  pub reloads : AreReloads watches config
  pub given : AllByRecursion IsTold watches
  pub told : IfTold (option_map tellings (acts world)) (told_in_turn watches (option_map tellings (acts old)))
  pub ready : IsReady (acts world) (upcoming world) config
