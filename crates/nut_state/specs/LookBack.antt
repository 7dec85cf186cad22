-- What a driver's lines say, by looking back over all of them. Lists of lines and of changes have the newest first,
-- unless a comment says otherwise.
use Rattle.std.specs.Prelude.{ℕ, suc, ◌-◌, ◌&&◌, ◌||◌, Bool, true, false, not, List, [], ◌∷◌, ◌++◌, Option, Some, None, if◌then◌else◌, filter, is_some, length, nat_le, nat_lt, reverse, unwrap_or}
use Rattle.std.specs.List.{list_any}
use Rattle.std.specs.Option.{option_or, option_map_or, option_to_list}
use Rattle.std.specs.Str.{bytes_eq}
use Rattle.nut_words.specs.declared.limits.TheConstants.{VALUE_MAX}
use Rattle.nut_state.specs.declared.limits.TheConstants.{VARIABLES_MAX, COMMANDS_MAX}
use Rattle.nut_state.specs.declared.number.Range.{Range}
use Rattle.nut_state.specs.declared.variable.Flags.{Flags}
use Rattle.nut_state.specs.Attribute.{no_flags, same_range, lists_enum, takes_enum, lists_range, takes_range}
use Rattle.nut_state.specs.Change.{Change, set_info, del_info, add_enum, del_enum, add_range, del_range, set_aux, set_flags, add_command, del_command, dump_done, data_ok, data_stale, pong, tracking, heard}
use Rattle.nut_state.specs.Text.{is_name}

-- ---- what one change says

-- Whether the change deletes the variable.
abbrev pub deletes : List ℕ → Change → Bool
deletes name (del_info n) = bytes_eq n name
deletes name other = false

-- The value that the change gives the variable, if it gives one.
abbrev pub value_set : List ℕ → Change → Option (List ℕ)
value_set name (set_info n value) = if bytes_eq n name then Some value else None
value_set name other = None

-- The flags that the change gives the variable, if it gives any.
abbrev pub flags_set : List ℕ → Change → Option Flags
flags_set name (set_flags n flags) = if bytes_eq n name then Some flags else None
flags_set name other = None

-- The aux that the change gives the variable, if it gives one.
abbrev pub aux_set : List ℕ → Change → Option ℕ
aux_set name (set_aux n aux) = if bytes_eq n name then aux else None
aux_set name other = None

-- The enum value that the change adds to the variable, if it adds one.
abbrev pub enum_added : List ℕ → Change → Option (List ℕ)
enum_added name (add_enum n value) = if bytes_eq n name then Some value else None
enum_added name other = None

-- Whether the change removes this enum value from the variable.
abbrev pub removes_enum : List ℕ → List ℕ → Change → Bool
removes_enum name listed (del_enum n value) = bytes_eq n name && bytes_eq listed value
removes_enum name listed other = false

-- The range that the change adds to the variable, if it adds one.
abbrev pub range_added : List ℕ → Change → Option Range
range_added name (add_range n range) = if bytes_eq n name then range else None
range_added name other = None

-- Whether the change removes this range from the variable.
abbrev pub removes_range : List ℕ → Range → Change → Bool
removes_range name listed (del_range n range) = bytes_eq n name && option_map_or (same_range listed) range false
removes_range name listed other = false

-- Whether the command exists after the change, if the change adds or deletes it.
abbrev pub command_set : List ℕ → Change → Option Bool
command_set name (add_command n) = if bytes_eq n name then Some true else None
command_set name (del_command n) = if bytes_eq n name then Some false else None
command_set name other = None

-- Whether the change is the end of a dump.
abbrev pub dumps : Change → Bool
dumps dump_done = true
dumps other = false

-- Whether the change says that the data are current, if it says anything of that.
abbrev pub data_set : Change → Option Bool
data_set data_ok = Some true
data_set data_stale = Some false
data_set other = None

-- ---- looking back over accepted changes

-- What `said` gives for the newest change for which it gives anything.
abbrev pub latest : {X : Type 0} → (Change → Option X) → List Change → Option X
latest said [] = None
latest said (change ∷ earlier) = option_or (said change) (latest said earlier)

-- Of these changes, here the oldest first: the additions that no later change removes, in order of addition.
abbrev pub standing : {X : Type 0} → (Change → Option X) → (X → Change → Bool) → List Change → List X
standing added removes [] = []
standing added removes (change ∷ later) =
    filter (λ x. not (list_any (removes x) later)) (option_to_list (added change)) ++ standing added removes later

-- The changes since the variable was last deleted.
abbrev pub era : List ℕ → List Change → List Change
era name [] = []
era name (change ∷ earlier) = if deletes name change then [] else change ∷ era name earlier

-- The value set last since the variable was last deleted. If none was set since, the variable doesn't exist.
abbrev pub last_value : List ℕ → List Change → Option (List ℕ)
last_value name changes = latest (value_set name) (era name changes)

-- Whether the variable exists after these changes.
abbrev pub is_there : List ℕ → List Change → Bool
is_there name changes = is_some (last_value name changes)

-- The flags set last since the variable was last deleted, or no flags.
abbrev pub last_flags : List ℕ → List Change → Flags
last_flags name changes = unwrap_or (latest (flags_set name) (era name changes)) no_flags

-- The aux set last since the variable was last deleted, or 0.
abbrev pub last_aux : List ℕ → List Change → ℕ
last_aux name changes = unwrap_or (latest (aux_set name) (era name changes)) 0

-- The enum values added since the variable was last deleted and not removed later, in order of addition.
abbrev pub standing_enums : List ℕ → List Change → List (List ℕ)
standing_enums name changes = standing (enum_added name) (removes_enum name) (reverse (era name changes))

-- The ranges added since the variable was last deleted and not removed later, in order of addition.
abbrev pub standing_ranges : List ℕ → List Change → List Range
standing_ranges name changes = standing (range_added name) (removes_range name) (reverse (era name changes))

-- Whether the command was added and not deleted since.
abbrev pub is_command : List ℕ → List Change → Bool
is_command name changes = unwrap_or (latest (command_set name) changes) false

-- Whether a dump was done.
abbrev pub is_dumped : List Change → Bool
is_dumped changes = list_any dumps changes

-- Whether the newest DATAOK or DATASTALE is a DATAOK; false if there is neither.
abbrev pub is_current : List Change → Bool
is_current changes = unwrap_or (latest data_set changes) false

-- The number of variables: a SETINFO of a variable that doesn't exist adds 1, and a DELINFO subtracts 1. A table lists
-- each of its variables once, and this is the length of that list (`LooksBack` and `ListsAgree`).
abbrev pub variable_count : List Change → ℕ
variable_count [] = 0
variable_count (set_info name value ∷ earlier) = if is_there name earlier then variable_count earlier else suc (variable_count earlier)
variable_count (del_info name ∷ earlier) = variable_count earlier - 1
variable_count (other ∷ earlier) = variable_count earlier

-- The number of commands: an ADDCMD adds 1, and a DELCMD subtracts 1.
abbrev pub command_count : List Change → ℕ
command_count [] = 0
command_count (add_command name ∷ earlier) = suc (command_count earlier)
command_count (del_command name ∷ earlier) = command_count earlier - 1
command_count (other ∷ earlier) = command_count earlier

-- ---- which changes are accepted

-- Whether a change is accepted after these accepted changes.
unfoldable pub is_accepted : List Change → Change → Bool
is_accepted past (set_info name value) =
    is_name name && nat_le (length value) VALUE_MAX && (is_there name past || nat_lt (variable_count past) VARIABLES_MAX)
is_accepted past (del_info name) = is_there name past
is_accepted past (add_enum name value) = is_there name past && takes_enum value (standing_enums name past)
is_accepted past (del_enum name value) = is_there name past && lists_enum value (standing_enums name past)
is_accepted past (add_range name (Some range)) = is_there name past && takes_range range (standing_ranges name past)
is_accepted past (add_range name None) = false
is_accepted past (del_range name (Some range)) = is_there name past && lists_range range (standing_ranges name past)
is_accepted past (del_range name None) = false
is_accepted past (set_aux name (Some aux)) = is_there name past && nat_le aux VALUE_MAX
is_accepted past (set_aux name None) = false
is_accepted past (set_flags name flags) = is_there name past
is_accepted past (add_command name) = is_name name && nat_lt (command_count past) COMMANDS_MAX && not (is_command name past)
is_accepted past (del_command name) = is_command name past
is_accepted past dump_done = true
is_accepted past data_ok = true
is_accepted past data_stale = true
is_accepted past pong = false
is_accepted past (tracking number status) = false

-- The change that a line asks for, if it is accepted after these changes.
abbrev pub accepted_after : List Change → Option Change → List Change
accepted_after past None = []
accepted_after past (Some change) = if is_accepted past change then change ∷ [] else []

-- The accepted changes of these lines, each judged by the lines before it.
abbrev pub accepted : List (List ℕ) → List Change
accepted [] = []
accepted (line ∷ earlier) = accepted_after (accepted earlier) (heard line) ++ accepted earlier

-- ---- what may allocate memory

-- Whether a change adds a variable, an enum value, a range or a command to what these changes lead to.
unfoldable pub adds_to : List Change → Change → Bool
adds_to past (set_info name value) = is_accepted past (set_info name value) && not (is_there name past)
adds_to past (add_enum name value) = is_accepted past (add_enum name value)
adds_to past (add_range name range) = is_accepted past (add_range name range)
adds_to past (add_command name) = is_accepted past (add_command name)
adds_to past other = false
