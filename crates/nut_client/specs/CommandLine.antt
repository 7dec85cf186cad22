-- What the command lines of the tools ask for (docs/programs.md).
--
-- clap says how words are split into options and arguments. A command line can be read if clap finds no fault in its
-- words; its options are then those of clap's matches.
use Rattle.std.specs.Prelude.{ℕ, Bool, true, false, List, [], ◌∷◌, ◌++◌, codes, fold, Option, Some, None, option_map, Result, Ok, Err, if◌then◌else◌}
use Rattle.std.specs.Option.{option_map_or}
use Rattle.std.specs.Str.{bytes_eq}
use Rattle.clap.specs.Simple.{on_top}
use Rattle.clap.specs.Words.{App, Kinds, Row, Rule, fault_of, first_of, matches_of, new_app, new_rule, with_rule}
use Rattle.clap.specs.declared.builder.ArgAction.TheVariants.{SetTrue}
use Rattle.nut_conf.specs.Target.{parted, target}
use Rattle.nut_conf.specs.declared.target.NameFault.{NameFault}
use Rattle.nut_client.specs.declared.destination.Destination.{Destination}
use Rattle.nut_client.specs.declared.failure.ToolFailure.{ToolFailure}
use Rattle.nut_client.specs.declared.failure.ToolFailure.TheVariants.{BadArguments, BadName}
use Rattle.nut_client.specs.declared.tool.Tool.{Tool}
use Rattle.nut_client.specs.declared.tool.Tool.TheVariants.{Upsc, Upsrw, Upscmd}
use Rattle.nut_client.specs.declared.wanted.UpsDeed.TheVariants as deeds
use Rattle.nut_client.specs.declared.wanted.Until.{Until}
use Rattle.nut_client.specs.declared.wanted.Until.TheVariants as untils
use Rattle.nut_client.specs.declared.wanted.Wanted.{Wanted}
use Rattle.nut_client.specs.declared.wanted.Wanted.TheVariants as wanteds

-- an option with a value, a flag, and an argument
abbrev pub valued : List ℕ → ℕ → Rule
valued id letter = record (new_rule id) { short = Some letter; value_names = 1 }

abbrev pub flag : List ℕ → ℕ → Rule
flag id letter = record (new_rule id) { short = Some letter; action = Some SetTrue }

abbrev pub argument : List ℕ → Rule
argument id = record (new_rule id) { value_names = 1 }

-- a command of this name with these options and arguments, and a version
abbrev pub command : List ℕ → List Rule → App
command name rules = fold with_rule (on_top (λ s. record s { has_version = true }) (new_app name)) rules

-- the command of each tool
unfoldable pub command_of : Tool → App
command_of Upsc =
    command (codes "upsc") (flag (codes "names") 108 ∷ flag (codes "descriptions") 76 ∷ flag (codes "clients") 99 ∷ flag (codes "json") 106
    ∷ argument (codes "name") ∷ argument (codes "variable") ∷ [])
command_of Upsrw =
    command (codes "upsrw") (valued (codes "setting") 115 ∷ flag (codes "wait") 119 ∷ valued (codes "user") 117
    ∷ valued (codes "password") 112 ∷ argument (codes "name") ∷ [])
command_of Upscmd =
    command (codes "upscmd") (flag (codes "list") 108 ∷ flag (codes "wait") 119 ∷ valued (codes "user") 117
    ∷ valued (codes "password") 112 ∷ argument (codes "name") ∷ argument (codes "command") ∷ argument (codes "parameter") ∷ [])

-- what a command line asks for: this, of the UPS of this name, at this host and port
pub record Options : Type 0 where
  pub ups : List ℕ
  pub host : List ℕ
  pub port : ℕ
  pub wanted : Wanted

-- A command line asks for something; or it is no combination that the tool knows, or has an invalid name; or clap finds
-- faults of these kinds.
abbrev pub CommandLine : Type 0
CommandLine = Result (Result Options ToolFailure) Kinds

-- what is wanted at a place, if that is valid
abbrev pub options_at : Wanted → Result (List ℕ × List ℕ × ℕ) NameFault → Result Options ToolFailure
options_at wanted (Ok place) = Ok (record { ups = place.0; host = place.1; port = place.2; wanted = wanted })
options_at wanted (Err fault) = Err BadName

-- whether these options name a server and no UPS
abbrev pub names_server : Wanted → Bool
names_server wanteds.Names = true
names_server wanteds.Descriptions = true
names_server other = false

-- the name of a UPS `u` at the server that is named, or else at localhost
abbrev pub at_server : Option (List ℕ) → List ℕ
at_server None = codes "u"
at_server (Some server) = codes "u@" ++ server

-- A name is needed, unless only a server is asked.
abbrev pub options_of : Option Wanted → Option (List ℕ) → Result Options ToolFailure
options_of None name = Err BadArguments
options_of (Some wanted) name =
    if names_server wanted then options_at wanted (target (at_server name))
    else option_map_or (λ n. options_at wanted (target n)) name (Err BadArguments)

-- whether a flag was given
abbrev pub is_given : List ℕ → List Row → Bool
is_given id rows = option_map_or (λ v. bytes_eq v (codes "true")) (first_of id rows) false

-- The flags for names, descriptions, clients and an object exclude each other, and all but the last exclude a variable.
abbrev pub upsc_wanted : Bool → Bool → Bool → Bool → Option (List ℕ) → Option Wanted
upsc_wanted false false false false None = Some wanteds.Variables
upsc_wanted false false false false (Some variable) = Some (wanteds.Value variable)
upsc_wanted true false false false None = Some wanteds.Names
upsc_wanted false true false false None = Some wanteds.Descriptions
upsc_wanted false false true false None = Some wanteds.Clients
upsc_wanted false false false true None = Some wanteds.Object
upsc_wanted false false false true (Some variable) = Some (wanteds.Member variable)
upsc_wanted names descriptions clients json variable = None

-- how long a tool stays, by whether the flag to wait was given
abbrev pub until : Bool → Until
until true = untils.Ended
until false = untils.Accepted

-- A setting, split at its first `=`, needs a user and a password; these and the flag to wait are allowed only with a
-- setting.
abbrev pub upsrw_wanted : Option (List ℕ) → Bool → Option (List ℕ) → Option (List ℕ) → Option Wanted
upsrw_wanted None false None None = Some wanteds.Settings
upsrw_wanted (Some setting) wait (Some user) (Some password) =
    option_map (λ p. wanteds.Does user password (deeds.Set p.0 p.1) (until wait)) (parted 61 setting)
upsrw_wanted setting wait user password = None

-- A list takes neither a command nor a user nor the flag to wait, and a command, with a parameter or without one, needs
-- a user and a password.
abbrev pub upscmd_wanted : Bool → Bool → Option (List ℕ) → Option (List ℕ) → Option (List ℕ) → Option (List ℕ) → Option Wanted
upscmd_wanted true false None None None None = Some wanteds.Commands
upscmd_wanted false wait (Some command) parameter (Some user) (Some password) =
    Some (wanteds.Does user password (deeds.Command command parameter) (until wait))
upscmd_wanted list wait command parameter user password = None

-- what its options and arguments ask of each tool
abbrev pub wanted_of : Tool → List Row → Option Wanted
wanted_of Upsc rows =
    upsc_wanted (is_given (codes "names") rows) (is_given (codes "descriptions") rows) (is_given (codes "clients") rows)
    (is_given (codes "json") rows) (first_of (codes "variable") rows)
wanted_of Upsrw rows =
    upsrw_wanted (first_of (codes "setting") rows) (is_given (codes "wait") rows) (first_of (codes "user") rows)
    (first_of (codes "password") rows)
wanted_of Upscmd rows =
    upscmd_wanted (is_given (codes "list") rows) (is_given (codes "wait") rows) (first_of (codes "command") rows)
    (first_of (codes "parameter") rows) (first_of (codes "user") rows) (first_of (codes "password") rows)

-- what clap's matches ask of a tool, if clap finds no fault
abbrev pub line_by : Tool → List Row → Kinds → CommandLine
line_by tool rows [] = Ok (options_of (wanted_of tool rows) (first_of (codes "name") rows))
line_by tool rows (kind ∷ kinds) = Err (kind ∷ kinds)

-- what these words ask of a tool, the program's name first
unfoldable pub line_of : Tool → List (List ℕ) → CommandLine
line_of tool words = line_by tool (matches_of (command_of tool) words) (fault_of (command_of tool) words)

-- the host and the port to connect to
abbrev pub target_of : CommandLine → Option (List ℕ × ℕ)
target_of (Ok (Ok options)) = Some (options.host, options.port)
target_of (Ok (Err failure)) = None
target_of (Err faults) = None

-- the host and the port of a destination
abbrev pub dialed : Destination → List ℕ × ℕ
dialed d = (d.host.bytes.items, d.port.number)
