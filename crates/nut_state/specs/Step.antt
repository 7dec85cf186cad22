-- How one line changes the table that the lines before it led to.
--
-- This is the table line by line, as the code keeps it. The law `every_table_holds` says that `table_of` holds what
-- looking back over the lines says, and that `accepts` and `adds` agree with `is_accepted` and `adds_to`. Who believes
-- `LookBack` needn't believe this file, except `line_adds`.
use Rattle.std.specs.Prelude.{ℕ, ◌&&◌, ◌||◌, Bool, true, false, not, List, [], ◌∷◌, ◌++◌, Option, Some, None, if◌then◌else◌, filter, is_some, length, nat_lt, nat_le, option_map, unwrap_or}
use Rattle.std.specs.Option.{option_map_or, option_to_list}
use Rattle.std.specs.Str.{bytes_eq}
use Rattle.nut_words.specs.declared.limits.TheConstants.{VALUE_MAX}
use Rattle.nut_state.specs.declared.limits.TheConstants.{VARIABLES_MAX, COMMANDS_MAX}
use Rattle.nut_state.specs.declared.number.Range.{Range}
use Rattle.nut_state.specs.Attribute.{no_flags, same_range, takes_enum, lists_enum, takes_range, lists_range}
use Rattle.nut_state.specs.Change.{Change, set_info, del_info, add_enum, del_enum, add_range, del_range, set_aux, set_flags, add_command, del_command, dump_done, data_ok, data_stale, pong, tracking, heard}
use Rattle.nut_state.specs.Sorted.{put}
use Rattle.nut_state.specs.Table.{Table, Entry, empty, variable, has_command}
use Rattle.nut_state.specs.Text.{is_name}

-- ---- when a change is accepted

-- Whether there is a variable with this name and it passes the test.
abbrev pub passes : Table → List ℕ → (Entry → Bool) → Bool
passes t name test = option_map_or test (variable t name) false

-- Whether the table accepts a change.
unfoldable pub accepts : Table → Change → Bool
accepts t (set_info name value) =
    is_name name && nat_le (length value) VALUE_MAX && (is_some (variable t name) || nat_lt (length t.variables) VARIABLES_MAX)
accepts t (del_info name) = is_some (variable t name)
accepts t (add_enum name value) = passes t name (λ v. takes_enum value v.enums)
accepts t (del_enum name value) = passes t name (λ v. lists_enum value v.enums)
accepts t (add_range name (Some range)) = passes t name (λ v. takes_range range v.ranges)
accepts t (add_range name None) = false
accepts t (del_range name (Some range)) = passes t name (λ v. lists_range range v.ranges)
accepts t (del_range name None) = false
accepts t (set_aux name (Some aux)) = is_some (variable t name) && nat_le aux VALUE_MAX
accepts t (set_aux name None) = false
accepts t (set_flags name flags) = is_some (variable t name)
accepts t (add_command name) = is_name name && nat_lt (length t.commands) COMMANDS_MAX && not (has_command t name)
accepts t (del_command name) = has_command t name
accepts t dump_done = true
accepts t data_ok = true
accepts t data_stale = true
accepts t pong = false
accepts t (tracking number status) = false

-- ---- what it does

-- A new variable: a value, no flags, aux 0, no enum values and no ranges.
abbrev pub fresh : List ℕ → List ℕ → Entry
fresh name value = record { name = name; value = value; flags = no_flags; aux = 0; enums = []; ranges = [] }

abbrev pub with_value : List ℕ → Entry → Entry
with_value value entry = record entry { value = value }

abbrev pub without_enum : List ℕ → Entry → Entry
without_enum text entry = record entry { enums = filter (λ listed. not (bytes_eq listed text)) entry.enums }

abbrev pub without_range : Range → Entry → Entry
without_range range entry = record entry { ranges = filter (λ listed. not (same_range listed range)) entry.ranges }

-- The table with the variable `new`, or with none, under this name.
abbrev pub with_variable : Table → List ℕ → Option Entry → Table
with_variable t name new = record t { variables = put (λ v. v.name) name new t.variables }

-- The table with the command `new`, or with none, under this name.
abbrev pub with_command : Table → List ℕ → Option (List ℕ) → Table
with_command t name new = record t { commands = put (λ command. command) name new t.commands }

-- The table with the variable of this name edited, if there is one.
abbrev pub revised : Table → List ℕ → (Entry → Entry) → Table
revised t name edit = with_variable t name (option_map edit (variable t name))

-- The table after an accepted change.
unfoldable pub changed : Table → Change → Table
changed t (set_info name value) =
    with_variable t name (Some (with_value value (unwrap_or (variable t name) (fresh name value))))
changed t (del_info name) = with_variable t name None
changed t (add_enum name value) = revised t name (λ v. record v { enums = v.enums ++ value ∷ [] })
changed t (del_enum name value) = revised t name (without_enum value)
changed t (add_range name range) = revised t name (λ v. record v { ranges = v.ranges ++ option_to_list range })
changed t (del_range name (Some range)) = revised t name (without_range range)
changed t (del_range name None) = t
changed t (set_aux name aux) = revised t name (λ v. record v { aux = unwrap_or aux 0 })
changed t (set_flags name flags) = revised t name (λ v. record v { flags = flags })
changed t (add_command name) = with_command t name (Some name)
changed t (del_command name) = with_command t name None
changed t dump_done = record t { dump_done = true }
changed t data_ok = record t { data_ok = true }
changed t data_stale = record t { data_ok = false }
changed t pong = t
changed t (tracking number status) = t

-- The table after a change was asked for: changed if it accepts the change, else the same.
unfoldable pub after : Table → Change → Table
after t change = if accepts t change then changed t change else t

-- The table after a line: the same if the line asks for nothing.
unfoldable pub applied : Table → List ℕ → Table
applied t line = option_map_or (after t) (heard line) t

-- The table after these lines, the newest first, if it began empty.
abbrev pub table_of : List (List ℕ) → Table
table_of [] = empty
table_of (line ∷ earlier) = applied (table_of earlier) line

-- ---- what may allocate memory

-- Whether a change adds a variable, an enum value, a range or a command.
unfoldable pub adds : Table → Change → Bool
adds t (set_info name value) = accepts t (set_info name value) && not (is_some (variable t name))
adds t (add_enum name value) = accepts t (add_enum name value)
adds t (add_range name range) = accepts t (add_range name range)
adds t (add_command name) = accepts t (add_command name)
adds t other = false

-- Whether a line asks for a change that adds a variable, an enum value, a range or a command.
unfoldable pub line_adds : Table → List ℕ → Bool
line_adds t line = option_map_or (adds t) (heard line) false
