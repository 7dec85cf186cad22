-- What upsmon did over a whole run: one watch after the other, and the halt.
use Rattle.std.specs.Prelude.{◌≡◌, ℕ, Bool, false, List, [], ◌∷◌, ◌++◌, map, Option, IfSome, option_map}
use Rattle.std.specs.List.{AllByRecursion}
use Rattle.nut_conf.specs.declared.upsmon.MonConfig.{MonConfig}
use Rattle.nut_monitor.specs.Monitors.{MonitorValue}
use Rattle.nut_monitor_spec.specs.declared.Notice.{Notice}
use Rattle.nut_monitor_spec.specs.declared.Phase.{Phase}
use Rattle.nut_monitor_spec.specs.declared.Phase.TheVariants.{Halted}
use Rattle.nut_monitor_spec.specs.Configuration.{configuration_of}
use Rattle.nut_monitor_spec.specs.Trace.{notices, trace}
use Rattle.nut_monitor_spec.specs.Acceptance.{IsAccepted}
use Rattle.nut_monitor_spec.specs.Content.{content, phase_of}
use Rattle.nut_monitor_spec.specs.Decision.{is_halted}
use Rattle.nut_monitor_loop.specs.Record.{Entry}
use Rattle.nut_monitor_loop.specs.Watched.{Step, Told, entries_of, history_of}
use Rattle.nut_monitor_sockets.specs.Handing.{StandFor, lost}
use Rattle.nut_upsmon.specs.Acts.{Act, Printed, Called, IfTold, IsHalted, told}
use Rattle.nut_upsmon.specs.Reload.{MayReload}

-- the acts that tell a notice, of a history
abbrev pub tellings : List Act → List Act
tellings [] = []
tellings (Printed text ∷ acts) = Printed text ∷ tellings acts
tellings (Called notice text ∷ acts) = Called notice text ∷ tellings acts
tellings (act ∷ acts) = tellings acts

-- a history after these notices, the oldest first, of a monitor with this configuration
abbrev pub told_all : MonConfig → List Notice → Option (List Act) → Option (List Act)
told_all config [] acts = acts
told_all config (notice ∷ notices) acts = told_all config notices (told config notice acts)

-- A watch: its configuration; what its world did, with the events of its monitor that stand for that; and the notices that
-- were handed on to be told.
pub record Watch : Type 0 where
  pub config : MonConfig
  pub steps : List Step
  pub given : List Notice

-- The events of its monitor follow from what its world did.
abbrev pub IsWatch : Watch → Type 0
IsWatch w =
    IsAccepted (configuration_of w.config) (history_of w.steps)
    × ((owed : Option ℕ) × Told (configuration_of w.config) w.steps owed)

-- The notices handed on, and COMMBAD of the lines for which it was still held back at the end, stand for those of its monitor.
abbrev pub IsTold : Watch → Type 0
IsTold w =
    (held : List ℕ) × StandFor (w.given ++ map lost held) (notices (trace (configuration_of w.config) (history_of w.steps)))

-- what its monitor said at last
abbrev pub last_phase : Watch → Phase
last_phase w = phase_of (content (configuration_of w.config) (history_of w.steps))

abbrev pub GoesOn : Watch → Type 0
GoesOn w = is_halted (last_phase w) ≡ false

-- the monitor of a watch, at the end
abbrev pub monitor_after : Watch → MonitorValue
monitor_after w = record { config = w.config; content = content (configuration_of w.config) (history_of w.steps) }

-- Of these watches, the newest first, and then one of this configuration, each may replace the one before it by a reload.
abbrev pub AreReloads : List Watch → MonConfig → Type 0
AreReloads [] config = Unit {0}
AreReloads (w ∷ ws) config = MayReload (monitor_after w) config × AreReloads ws w.config

-- a history after these watches, the newest first
abbrev pub told_in_turn : List Watch → Option (List Act) → Option (List Act)
told_in_turn [] acts = acts
told_in_turn (w ∷ ws) acts = told_all w.config w.given (told_in_turn ws acts)

-- By these watches, the newest first, and what is done between them, the first state became the second.
abbrev pub Ran : {W : Type 0} → (MonConfig → W → W → List Entry → Type 0) → (W → W → Type 0) → List Watch → W → W → Type 0
Ran {W} Did Turns [] first last = Turns first last
Ran {W} Did Turns (w ∷ ws) first last =
    (begun : W) × (ended : W) × Ran Did Turns ws first begun × Did w.config begun ended (entries_of w.steps) × Turns ended last

-- The machine was halted after these watches, as the monitor of the last one said, by its configuration. No earlier monitor
-- said so, and the reloads forgot nothing that could have led to that. All notices were told, each as the configuration of its
-- watch says, and no more.
pub record EndsInHalt {W : Type 0} (Did : MonConfig → W → W → List Entry → Type 0) (Turns : W → W → Type 0)
    (acts : W → Option (List Act)) (old new : W) : Type 0 where
  pub last : Watch
  pub earlier : List Watch
  pub flag : Bool
  pub ran : Ran Did Turns (last ∷ earlier) old new
  pub each : AllByRecursion IsWatch (last ∷ earlier)
  pub says : last_phase last ≡ Halted flag
  pub others : AllByRecursion GoesOn earlier
  pub reloads : AreReloads earlier last.config
  pub halted : IfSome (acts new) (IsHalted last.config flag)
  pub given : AllByRecursion IsTold (last ∷ earlier)
  pub told : IfTold (option_map tellings (acts new)) (told_in_turn (last ∷ earlier) (option_map tellings (acts old)))

-- These watches ended, the last one by a fault, and no monitor said that the machine has to be halted.
pub record EndsInFault {W : Type 0} (Did : MonConfig → W → W → List Entry → Type 0) (Turns : W → W → Type 0) (old new : W) : Type 0 where
  pub watches : List Watch
  pub ran : Ran Did Turns watches old new
  pub each : AllByRecursion IsWatch watches
  pub going : AllByRecursion GoesOn watches
