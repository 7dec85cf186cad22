-- For private functions, nothing here has to be believed: which verbs may add something to a table.
use Rattle.std.specs.Prelude.{Bool, true, false}
use Rattle.nut_state.specs.declared.verb.Verb.{Verb}
use Rattle.nut_state.specs.declared.verb.Verb.TheVariants.{SetInfo, AddEnum, AddRange, AddCommand}

-- whether a line with this verb may add a variable, an enum value, a range or a command
abbrev pub may_add : Verb → Bool
may_add SetInfo = true
may_add AddEnum = true
may_add AddRange = true
may_add AddCommand = true
may_add verb = false
