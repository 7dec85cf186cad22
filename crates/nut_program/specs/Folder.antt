-- The folder that has the configuration files.
use Rattle.std.specs.Prelude.{ℕ, ◌==◌, List, length, codes, Option, Some, None, if◌then◌else◌}

-- the folder that a variable names, or NUT's if it is empty
abbrev pub folder_of_variable : List ℕ → List ℕ
folder_of_variable variable = if length variable == 0 then codes "/etc/nut" else variable

-- the folder that the command line names, or else the variable, or else NUT's
abbrev pub folder_named : Option (List ℕ) → Option (List ℕ) → List ℕ
folder_named (Some option) variable = option
folder_named None (Some variable) = folder_of_variable variable
folder_named None None = codes "/etc/nut"
