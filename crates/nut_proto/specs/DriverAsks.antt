-- The requests of the server to a driver, as lines (NUT developer guide, driver and server on one machine).
use Rattle.std.specs.Prelude.{ℕ, List, [], ◌∷◌, ◌++◌, Option, Some, None, codes, if◌then◌else◌}
use Rattle.std.specs.Option.{option_map}
use Rattle.nut_proto.specs.declared.driver_ask.DriverAsk.{DriverAsk}
use Rattle.nut_proto.specs.declared.driver_ask.DriverAsk.TheVariants as asks
use Rattle.nut_proto.specs.declared.part.Part.{Part}
use Rattle.nut_proto.specs.declared.part.Part.TheVariants.{Word, Quoted, Number}
use Rattle.nut_proto.specs.Lines.{line}
use Rattle.nut_proto.specs.Keywords.{is_named}
use Rattle.nut_proto.specs.Requests.{parameter_parts}
use Rattle.nut_proto.specs.Rules.{none, number_word}

-- the end of a request that is tracked under a number
abbrev pub number_parts : Option ℕ → List Part
number_parts None = []
number_parts (Some number) = Word (codes "TRACKING") ∷ Number number ∷ []

abbrev pub ask_parts : DriverAsk → List Part
ask_parts asks.Ping = Word (codes "PING") ∷ []
ask_parts asks.DumpAll = Word (codes "DUMPALL") ∷ []
ask_parts (asks.Set variable value number) = Word (codes "SET") ∷ Word variable ∷ Quoted value ∷ number_parts number
ask_parts (asks.InstCmd command parameter number) =
    Word (codes "INSTCMD") ∷ Word command ∷ (parameter_parts parameter ++ number_parts number)

-- the line of a request
unfoldable pub ask_line : DriverAsk → List ℕ
ask_line ask = line (ask_parts ask)

-- the number of a request, if these words at its end are none, or `TRACKING` and a number
abbrev pub number_of : List (List ℕ) → Option (Option ℕ)
number_of [] = Some None
number_of (word ∷ words) = if is_named word (codes "TRACKING") then option_map (λ n. Some n) (number_word words) else None

-- the request to set a variable, by the words after SET
abbrev pub set_of : List (List ℕ) → Option DriverAsk
set_of (variable ∷ value ∷ words) = option_map (λ number. asks.Set variable value number) (number_of words)
set_of words = None

-- The request to run a command, by the words after INSTCMD. With a parameter, an odd number of words follows the
-- command.
abbrev pub command_of : List (List ℕ) → Option DriverAsk
command_of [] = None
command_of (command ∷ []) = Some (asks.InstCmd command None None)
command_of (command ∷ parameter ∷ []) = Some (asks.InstCmd command (Some parameter) None)
command_of (command ∷ a ∷ b ∷ []) = option_map (λ number. asks.InstCmd command None number) (number_of (a ∷ b ∷ []))
command_of (command ∷ parameter ∷ a ∷ b ∷ words) =
    option_map (λ number. asks.InstCmd command (Some parameter) number) (number_of (a ∷ b ∷ words))

-- the request to a driver that the words of a line make, if they make one; the number of words must match exactly
unfoldable pub ask_of : List (List ℕ) → Option DriverAsk
ask_of [] = None
ask_of (word ∷ words) =
    if is_named word (codes "PING") then none asks.Ping words else
    if is_named word (codes "DUMPALL") then none asks.DumpAll words else
    if is_named word (codes "SET") then set_of words else
    if is_named word (codes "INSTCMD") then command_of words else
    None
