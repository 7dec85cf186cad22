-- The table of a dummy driver, as the table of a UPS.
use Rattle.std.specs.Prelude.{ℕ, true, List, [], ◌∷◌, Option, Some, None, map}
use Rattle.std.specs.List.{flat_map}
use Rattle.nut_state.specs.Table.{Table, Entry}
use Rattle.nut_dummy.specs.Command.{command_name, all_commands}
use Rattle.nut_dummy.specs.Teller.{Variable}
use Rattle.nut_dummy.specs.Writable.{Attributes, attributes_of, writable_of}

-- A variable is in the table, with its attributes, only if it has a value.
abbrev pub entries : List ℕ → Option (List ℕ) → List Entry
entries name None = []
entries name (Some value) =
    let a : Attributes = attributes_of (writable_of name) in
    record { name = name; value = value; flags = a.flags; aux = a.aux; enums = a.enums; ranges = a.ranges } ∷ []

-- The variables that have a value, and all commands. A dummy's dump is always done and its data are always current.
abbrev pub table_of : List Variable → Table
table_of variables = record {
  variables = flat_map (λ v. entries v.name v.value) variables;
  commands = map command_name all_commands;
  dump_done = true;
  data_ok = true;
}
