-- The instant commands of a dummy driver, and what they set: this project's own.
use Rattle.std.specs.Prelude.{ℕ, List, [], ◌∷◌, Option, codes, find}
use Rattle.std.specs.Str.{bytes_eq}
use Rattle.nut_dummy.specs.declared.command.KnownCommand.{KnownCommand}
use Rattle.nut_dummy.specs.declared.command.KnownCommand.TheVariants.{BeeperDisable, BeeperEnable, LoadOff, LoadOn, BatteryTestStart, BatteryTestStop, FailureStart, FailureStop}

-- the name of a command, the variable that it sets, and the value
abbrev pub row : KnownCommand → List ℕ × List ℕ × List ℕ
row BeeperDisable = (codes "beeper.disable", codes "ups.beeper.status", codes "disabled")
row BeeperEnable = (codes "beeper.enable", codes "ups.beeper.status", codes "enabled")
row LoadOff = (codes "load.off", codes "ups.status", codes "OFF")
row LoadOn = (codes "load.on", codes "ups.status", codes "OL")
row BatteryTestStart = (codes "test.battery.start", codes "ups.test.result", codes "In progress")
row BatteryTestStop = (codes "test.battery.stop", codes "ups.test.result", codes "Aborted")
row FailureStart = (codes "test.failure.start", codes "ups.status", codes "OB")
row FailureStop = (codes "test.failure.stop", codes "ups.status", codes "OL")

abbrev pub command_name : KnownCommand → List ℕ
command_name c = (row c).0

abbrev pub variable_set : KnownCommand → List ℕ
variable_set c = (row c).1

abbrev pub value_set : KnownCommand → List ℕ
value_set c = (row c).2

-- all commands, ascending by name
abbrev pub all_commands : List KnownCommand
all_commands =
    BeeperDisable ∷ BeeperEnable ∷ LoadOff ∷ LoadOn ∷ BatteryTestStart ∷ BatteryTestStop ∷ FailureStart ∷ FailureStop ∷ []

-- the variables that commands set
abbrev pub command_variables : List (List ℕ)
command_variables = codes "ups.beeper.status" ∷ codes "ups.status" ∷ codes "ups.test.result" ∷ []

-- the command of a name, if there is one
unfoldable pub command_of : List ℕ → Option KnownCommand
command_of name = find (λ c. bytes_eq (command_name c) name) all_commands
