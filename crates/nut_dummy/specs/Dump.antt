-- The table that a server reads from a dump, in whatever pieces its bytes come.
use Rattle.std.specs.Prelude.{◌≡◌, ℕ, true, List, [], ◌∷◌, ◌++◌, Ok, map}
use Rattle.std.specs.List.{concat, flat_map}
use Rattle.std.specs.Option.{option_map_or}
use Rattle.nut_words.specs.Lines.{LineText, Text, TooLong, lines, lines_after, rest, rest_after}
use Rattle.nut_proto.specs.Lines.{message}
use Rattle.nut_state.specs.Sorted.{IsAscending}
use Rattle.nut_state.specs.Step.{applied}
use Rattle.nut_state.specs.Table.{Table, empty}
use Rattle.nut_dummy.specs.declared.item.ScriptKind.{ScriptKind}
use Rattle.nut_dummy.specs.Command.{command_name, all_commands}
use Rattle.nut_dummy.specs.Dummy.{timelines}
use Rattle.nut_dummy.specs.History.{Call, Deed, Dumps, by_lines, deeds, owed, seen}
use Rattle.nut_dummy.specs.Script.{Script, read_script}
use Rattle.nut_dummy.specs.Table.{table_of}
use Rattle.nut_dummy.specs.Teller.{Variable}
use Rattle.nut_dummy.specs.Telling.{Message, variable_messages, closing_messages}

-- ---- the server's end of a link

-- the table after these lines, the oldest first; one that is too long is ignored
abbrev pub table_after : List LineText → Table → Table
table_after [] t = t
table_after (Text line ∷ later) t = table_after later (applied t line)
table_after (TooLong ∷ later) t = table_after later t

-- the lines that pieces complete in turn, after this unfinished line
abbrev pub lines_in : LineText → List (List ℕ) → List LineText
lines_in unfinished [] = []
lines_in unfinished (piece ∷ pieces) = lines_after unfinished piece ++ lines_in (rest_after unfinished piece) pieces

-- In whatever pieces a server gets these bytes, they lead it from an empty table to this one, and no line is unfinished.
abbrev pub LeadTo : Table → List ℕ → Type 0
LeadTo table bytes =
    (rest bytes ≡ Text []) × ((pieces : List (List ℕ)) → concat pieces ≡ bytes → table_after (lines_in (Text []) pieces) empty ≡ table)

-- ---- the dump

-- the lines of each variable that has a value, with its limits; then ADDCMD for each command, DATAOK and DUMPDONE
abbrev pub dump_messages : List Variable → List Message
dump_messages variables = flat_map (λ v. option_map_or (variable_messages true v.name) v.value []) variables ++ closing_messages

-- These bytes are a dump of these variables.
pub record IsDump (variables : List Variable) (bytes : List ℕ) : Type 0 where
  -- They are these lines, in this order. Variables and commands ascend by name.
  pub in_order : lines bytes ≡ map (λ m. Text (message m)) (dump_messages variables)
  pub variables_ascend : IsAscending (map (λ v. v.name) variables)
  pub commands_ascend : IsAscending (map command_name all_commands)
  -- They lead from an empty table to the driver's own: the variables that have a value, ascending, each with its flags,
  -- aux, enum values and ranges, and all commands; the dump is done, and the data are current.
  pub is_table : LeadTo (table_of variables) bytes

-- Whatever script was read, whatever calls were made and whatever lines came before: a line that asks DUMPALL owes the
-- link a dump of the variables that are then held.
abbrev pub DumpIsTheTable : Type 0
DumpIsTheTable =
    (kind : ScriptKind) (text : List ℕ) (script : Script) (start : ℕ) (h : List Call) (before : List LineText) →
    read_script kind text ≡ Ok script →
    let past : List Deed = by_lines before (deeds script.round start h) in
    IsDump (map (seen past) (timelines script)) (owed (timelines script) Dumps past)
