-- A machine in memory: the acts that it noted.
use Rattle.std.specs.Prelude.{ℕ, Bool, List, map, reverse, if◌then◌else◌, Option, Some, None, option_map, Vec}
use Rattle.nut_upsmon.specs.Acts.{Act}
use Rattle.nut_upsmon.specs.Acts as act
use Rattle.nut_upsmon.specs.declared.memory_machine.NotedAct.{NotedAct}
use Rattle.nut_upsmon.specs.declared.memory_machine.NotedAct.TheVariants.{ClearedFlag, Readied, Changed, Printed, Called, TriedFlag, RanShutdown}

abbrev pub noted_text : {A : Type 0} → Option (Vec ℕ A) → Option (List ℕ)
noted_text text = option_map (λ bytes. bytes.items) text

-- a note as an act
abbrev pub act_of : NotedAct → Act
act_of (ClearedFlag flag) = act.ClearedFlag (noted_text flag)
act_of (Readied command flag) = act.Readied (record { command = noted_text command; flag = noted_text flag })
act_of Changed = act.Changed
act_of (Printed text) = act.Printed text.items
act_of (Called notice text) = act.Called notice text.items
act_of TriedFlag = act.TriedFlag
act_of RanShutdown = act.RanShutdown

-- the notes as a history, the newest act first
abbrev pub acts_of : List NotedAct → List Act
acts_of notes = reverse (map act_of notes)

-- what a machine tells: nothing, if it lacked the memory for a note
abbrev pub told_acts : Bool → List NotedAct → Option (List Act)
told_acts is_whole notes = if is_whole then Some (acts_of notes) else None
