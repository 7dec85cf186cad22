-- What upsmon does to its machine.
use Rattle.std.specs.Prelude.{◌≡◌, ℕ, Bool, ◌||◌, ◌&&◌, not, List, [], ◌∷◌, ◌++◌, if◌then◌else◌, Option, Some, None, IfSome, option_map}
use Rattle.std.specs.List.{AllByRecursion}
use Rattle.nut_conf.specs.declared.notice.NoticeFlags.{NoticeFlags}
use Rattle.nut_conf.specs.declared.text.Text.{Text}
use Rattle.nut_conf.specs.declared.upsmon.MonConfig.{MonConfig}
use Rattle.nut_conf.specs.Upsmon.{flags_of}
use Rattle.nut_monitor.specs.Texts.{text_of}
use Rattle.nut_monitor_spec.specs.declared.Notice.{Notice}

-- how a machine is halted: SHUTDOWNCMD and POWERDOWNFLAG, of those that are set
pub record Halt : Type 0 where
  pub command : Option (List ℕ)
  pub flag : Option (List ℕ)

abbrev pub text_in : {least most : ℕ} → Option (Text least most) → Option (List ℕ)
text_in text = option_map (λ t. t.bytes.items) text

-- how a machine of this configuration is halted
abbrev pub halt_of : MonConfig → Halt
halt_of config = record { command = text_in config.shutdown_cmd; flag = text_in config.power_down_flag }

pub data Act : Type 0 where
  -- it tried to remove the POWERDOWNFLAG of this name, which an earlier shutdown may have left
  ClearedFlag : (flag : Option (List ℕ)) → Act
  -- it made ready to halt so
  Readied : (halt : Halt) → Act
  -- it halts as was readied last, from now on
  Changed : Act
  -- it printed this text as a line, or tried to
  Printed : (text : List ℕ) → Act
  -- it ran NOTIFYCMD with this notice and its text, or tried to
  Called : (notice : Notice) (text : List ℕ) → Act
  -- it tried to set POWERDOWNFLAG
  TriedFlag : Act
  -- it ran SHUTDOWNCMD, or tried to
  RanShutdown : Act

-- a history, the newest act first, after one more; who tells nothing goes on telling nothing
abbrev pub does : Act → Option (List Act) → Option (List Act)
does act acts = option_map (λ before. act ∷ before) acts

-- A history that is told is the one that is due. Who lacks the memory for one more act tells nothing from then on.
abbrev pub IfTold : {X : Type 0} → Option X → Option X → Type 0
IfTold told due = IfSome told (λ acts. due ≡ Some acts)

abbrev pub printed : Bool → List ℕ → Option (List Act) → Option (List Act)
printed is_wanted text acts = if is_wanted then does (Printed text) acts else acts

abbrev pub called : Bool → Notice → List ℕ → Option (List Act) → Option (List Act)
called is_wanted notice text acts = if is_wanted then does (Called notice text) acts else acts

-- a notice with these flags is printed
abbrev pub is_to_print : NoticeFlags → Bool
is_to_print flags = not flags.ignore && (flags.syslog || flags.wall)

-- NOTIFYCMD is run with it
abbrev pub is_to_call : NoticeFlags → Bool
is_to_call flags = not flags.ignore && flags.exec

-- a history after a notice with these flags and this text
abbrev pub told_by : NoticeFlags → Notice → List ℕ → Option (List Act) → Option (List Act)
told_by flags notice text acts = called (is_to_call flags) notice text (printed (is_to_print flags) text acts)

-- a history after a notice of a monitor with this configuration
abbrev pub told : MonConfig → Notice → Option (List Act) → Option (List Act)
told config notice acts = told_by (flags_of notice.kind config) notice (text_of config notice) acts

-- the halt that was readied last
abbrev pub readied : List Act → Option Halt
readied [] = None
readied (Readied halt ∷ acts) = Some halt
readied (act ∷ acts) = readied acts

-- how the machine is halted: as was readied when that was changed last
abbrev pub in_force : List Act → Option Halt
in_force [] = None
in_force (Changed ∷ acts) = readied acts
in_force (act ∷ acts) = in_force acts

-- an act that isn't part of a halt
abbrev pub IsQuiet : Act → Type 0
IsQuiet TriedFlag = ⊥
IsQuiet RanShutdown = ⊥
IsQuiet act = Unit {0}

-- the acts of a halt, the newest first
abbrev pub halting : Bool → List Act
halting flag = RanShutdown ∷ (if flag then TriedFlag ∷ [] else [])

-- Its first acts: it tried to remove the flag if that was left, and made ready to halt with it.
abbrev pub ClearsFirst : List Act → Type 0
ClearsFirst acts = (halt : Halt) × (later : List Act) × (acts ≡ later ++ Readied halt ∷ ClearedFlag halt.flag ∷ [])

-- The last acts are those of a halt by this configuration, which sets POWERDOWNFLAG if `flag`. No earlier act is.
pub record IsHalted (config : MonConfig) (flag : Bool) (acts : List Act) : Type 0 where
  pub before : List Act
  pub done : acts ≡ halting flag ++ before
  pub quiet : AllByRecursion IsQuiet before
  pub first : ClearsFirst before
  pub force : in_force before ≡ Some (halt_of config)
