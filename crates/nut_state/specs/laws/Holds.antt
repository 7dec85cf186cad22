-- When a table holds what a driver's lines say.
use Rattle.std.specs.Prelude.{◌≡◌, ℕ, ◌≤◌, true, List, Some, map, length}
use Rattle.std.specs.List.{All, Contains}
use Rattle.nut_words.specs.declared.limits.TheConstants.{VALUE_MAX}
use Rattle.nut_state.specs.declared.limits.TheConstants.{VARIABLES_MAX, COMMANDS_MAX, ENUMS_MAX, RANGES_MAX}
use Rattle.nut_state.specs.Change.{Change}
use Rattle.nut_state.specs.LookBack.{last_value, last_flags, last_aux, standing_enums, standing_ranges, is_command, is_dumped, is_current, variable_count, command_count, is_accepted, adds_to, accepted}
use Rattle.nut_state.specs.Sorted.{IsAscending}
use Rattle.nut_state.specs.Step.{accepts, adds, table_of}
use Rattle.nut_state.specs.Table.{Table, Entry, variable, has_command, value_of, flags_of, aux_of, enums_of, ranges_of}
use Rattle.nut_state.specs.Text.{is_name}

-- The variable's name is a name, its value and each enum value have at most VALUE_MAX bytes, its aux is at most
-- VALUE_MAX, and it has at most ENUMS_MAX enum values and RANGES_MAX ranges.
pub record IsWithinLimits (v : Entry) : Type 0 where
  pub name : is_name v.name ≡ true
  pub value : length v.value ≤ VALUE_MAX
  pub aux : v.aux ≤ VALUE_MAX
  pub enums : length v.enums ≤ ENUMS_MAX
  pub each_enum : All (λ text. length text ≤ VALUE_MAX) v.enums
  pub ranges : length v.ranges ≤ RANGES_MAX

-- The names of the variables and those of the commands ascend strictly in byte order. There are at most VARIABLES_MAX
-- variables, each within its limits, and at most COMMANDS_MAX commands, each of which is a name.
pub record IsTable (t : Table) : Type 0 where
  pub variables_ascend : IsAscending (map (λ v. v.name) t.variables)
  pub variables_within : length t.variables ≤ VARIABLES_MAX
  pub each_within : All IsWithinLimits t.variables
  pub commands_ascend : IsAscending (map (λ command. command) t.commands)
  pub commands_within : length t.commands ≤ COMMANDS_MAX
  pub each_command : All (λ command. is_name command ≡ true) t.commands

-- The lists of a table and its look-ups agree.
pub record ListsAgree (t : Table) : Type 0 where
  -- The look-up of a listed variable's name gives that variable.
  pub found : All (λ v. variable t v.name ≡ Some v) t.variables
  -- If the look-up of a name gives a variable, it is listed and has that name.
  pub listed : (name : List ℕ) (v : Entry) → variable t name ≡ Some v → Contains t.variables v × (v.name ≡ name)
  -- A look-up finds a command if, and only if, it is listed.
  pub command_found : All (λ command. has_command t command ≡ true) t.commands
  pub command_listed : (name : List ℕ) → has_command t name ≡ true → Contains t.commands name

-- Each look-up in the table, for each name, gives what looking back over the accepted changes gives. So do the two
-- marks and the numbers of variables and commands.
pub record LooksBack (t : Table) (changes : List Change) : Type 0 where
  pub value : (name : List ℕ) → value_of t name ≡ last_value name changes
  pub flags : (name : List ℕ) → flags_of t name ≡ last_flags name changes
  pub aux : (name : List ℕ) → aux_of t name ≡ last_aux name changes
  pub enums : (name : List ℕ) → enums_of t name ≡ standing_enums name changes
  pub ranges : (name : List ℕ) → ranges_of t name ≡ standing_ranges name changes
  pub command : (name : List ℕ) → has_command t name ≡ is_command name changes
  pub dumped : t.dump_done ≡ is_dumped changes
  pub current : t.data_ok ≡ is_current changes
  pub variables : length t.variables ≡ variable_count changes
  pub commands : length t.commands ≡ command_count changes

-- For each change, `accepts` of the table agrees with `is_accepted` after these changes, and `adds` with `adds_to`.
pub record FollowsAlike (t : Table) (changes : List Change) : Type 0 where
  pub accepted_alike : (change : Change) → accepts t change ≡ is_accepted changes change
  pub added_alike : (change : Change) → adds t change ≡ adds_to changes change

-- The table holds what the lines say, the newest line first: it is in order, its lists and look-ups agree, each look-up
-- gives what looking back over the lines gives, and a further change is accepted, and adds to the table, as looking
-- back says.
pub record Holds (t : Table) (lines : List (List ℕ)) : Type 0 where
  pub in_order : IsTable t
  pub agrees : ListsAgree t
  pub looks_back : LooksBack t (accepted lines)
  pub goes_on : FollowsAlike t (accepted lines)

-- After any lines, a table that began empty holds what they say.
abbrev pub EveryTableHolds : Type 0
EveryTableHolds = (lines : List (List ℕ)) → Holds (table_of lines) lines
