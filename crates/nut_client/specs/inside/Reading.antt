-- How the code reads a command line.
use Rattle.std.specs.Prelude.{◌≡◌, ℕ, List, [], ◌⊎◌, Result, Ok, Err, IsErr}
use Rattle.clap.specs.Words.{App, IsAmong, fault_of, found_of, kind_of, matches_of, rows_of}
use Rattle.clap.specs.declared.error.Error.{Error}
use Rattle.clap.specs.declared.error.ErrorKind.TheVariants.{OutOfMemory}
use Rattle.clap.specs.declared.ArgMatches.{ArgMatches}
use Rattle.nut_conf.specs.Target.{target_view}
use Rattle.nut_conf.specs.declared.target.NameFault.{NameFault}
use Rattle.nut_conf.specs.declared.target.Target.{Target}
use Rattle.nut_client.specs.declared.command_line.Options.{Options as Read}
use Rattle.nut_client.specs.declared.command_line.Refusal.{Refusal}
use Rattle.nut_client.specs.declared.command_line.Refusal.TheVariants.{Usage, Failed}
use Rattle.nut_client.specs.declared.failure.ToolFailure.{ToolFailure}
use Rattle.nut_client.specs.declared.failure.ToolFailure.TheVariants.{BadName, Memory}
use Rattle.nut_client.specs.CommandLine.{CommandLine, Options}
use Rattle.nut_client.specs.Output.{Written}
use Rattle.nut_client.specs.Tool.{Explains, Tells, is_asked_for}

-- what clap's error becomes
abbrev pub IsRefusalOf : Error → Refusal → Type 0
IsRefusalOf error (Usage other) = (other ≡ error) × (kind_of error ≡ OutOfMemory → ⊥)
IsRefusalOf error (Failed failure) = failure ≡ Memory

-- clap reads the words of a command or finds a fault in them, unless memory could not be allocated
abbrev pub IsReadBy : App → List (List ℕ) → Result ArgMatches Refusal → Type 0
IsReadBy app words (Ok matches) = (fault_of app words ≡ []) × (rows_of (found_of matches) ≡ matches_of app words)
IsReadBy app words (Err (Usage error)) = IsAmong (kind_of error) (fault_of app words)
IsReadBy app words (Err (Failed failure)) = failure ≡ Memory

-- the target that is meant
abbrev pub IsTarget : Result (List ℕ × List ℕ × ℕ) NameFault → Result Target ToolFailure → Type 0
IsTarget meant (Ok target) = meant ≡ Ok (target_view target)
IsTarget meant (Err failure) = (failure ≡ BadName) × IsErr meant

abbrev pub options_view : Read → Options
options_view o = record { ups = o.target.ups.bytes.items; host = o.target.host.bytes.items; port = o.target.port.number; wanted = o.wanted }

-- the options that are meant
abbrev pub AreOptions : Result Options ToolFailure → Result Read Refusal → Type 0
AreOptions meant (Ok options) = meant ≡ Ok (options_view options)
AreOptions meant (Err (Usage error)) = ⊥
AreOptions meant (Err (Failed failure)) = meant ≡ Err failure

-- the command line that is meant, unless memory could not be allocated
abbrev pub IsRead : CommandLine → Result Read Refusal → Type 0
IsRead line (Ok options) = line ≡ Ok (Ok (options_view options))
IsRead line (Err (Usage error)) = (faults : _) × (line ≡ Err faults) × IsAmong (kind_of error) faults
IsRead line (Err (Failed failure)) = (failure ≡ Memory) ⊎ (line ≡ Ok (Err failure))

-- what is told of a refusal: clap's text for its error if memory for it can be allocated; or the failure
abbrev pub TellsRefusal : Refusal → ℕ → Written → Written → Type 0
TellsRefusal (Usage error) status out err = Explains (is_asked_for (kind_of error)) status out err ⊎ Tells (Err Memory) status out err
TellsRefusal (Failed failure) status out err = Tells (Err failure) status out err
