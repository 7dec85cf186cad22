-- What the table of one UPS holds, and what look-ups by name give.
use Rattle.std.specs.Prelude.{ℕ, Bool, false, List, [], Option, is_some, option_map}
use Rattle.std.specs.Option.{option_map_or}
use Rattle.nut_state.specs.declared.variable.Flags.{Flags}
use Rattle.nut_state.specs.declared.number.Range.{Range}
use Rattle.nut_state.specs.Attribute.{no_flags}
use Rattle.nut_state.specs.Sorted.{named}

-- A variable of the table.
pub record Entry : Type 0 where
  pub name : List ℕ
  pub value : List ℕ
  pub flags : Flags
  pub aux : ℕ
  pub enums : List (List ℕ)
  pub ranges : List Range

-- The table: variables and commands, ascending by name; whether a dump is done; and whether the data are current.
pub record Table : Type 0 where
  pub variables : List Entry
  pub commands : List (List ℕ)
  pub dump_done : Bool
  pub data_ok : Bool

-- The table before any line.
abbrev pub empty : Table
empty = record { variables = []; commands = []; dump_done = false; data_ok = false }

-- The variable with this name, if there is one.
abbrev pub variable : Table → List ℕ → Option Entry
variable t name = named (λ v. v.name) name t.variables

-- The value of the variable with this name, if there is one.
abbrev pub value_of : Table → List ℕ → Option (List ℕ)
value_of t name = option_map (λ v. v.value) (variable t name)

-- The flags of the variable with this name, or no flags if there is no such variable.
abbrev pub flags_of : Table → List ℕ → Flags
flags_of t name = option_map_or (λ v. v.flags) (variable t name) no_flags

-- The aux of the variable with this name, or 0 if there is no such variable.
abbrev pub aux_of : Table → List ℕ → ℕ
aux_of t name = option_map_or (λ v. v.aux) (variable t name) 0

-- The enum values of the variable with this name, or none if there is no such variable.
abbrev pub enums_of : Table → List ℕ → List (List ℕ)
enums_of t name = option_map_or (λ v. v.enums) (variable t name) []

-- The ranges of the variable with this name, or none if there is no such variable.
abbrev pub ranges_of : Table → List ℕ → List Range
ranges_of t name = option_map_or (λ v. v.ranges) (variable t name) []

-- Whether the command is listed.
abbrev pub has_command : Table → List ℕ → Bool
has_command t name = is_some (named (λ command. command) name t.commands)
