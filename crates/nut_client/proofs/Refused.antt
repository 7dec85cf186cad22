-- What is told of a command line that gives no options.
use Rattle.std.proofs.Common.{ℕ, List, Result, Err, inl, inr, refl}
use Rattle.clap.specs.Words.{kind_of}
use Rattle.nut_client.specs.CommandLine.{CommandLine}
use Rattle.nut_client.specs.Output.{Written}
use Rattle.nut_client.specs.inside.Reading.{IsRead, TellsRefusal}
use Rattle.nut_client.specs.Script.{Script}
use Rattle.nut_client.specs.Tool.{RunsAs, refuses, explains}
use Rattle.nut_client.specs.declared.command_line.Refusal.{Refusal}
use Rattle.nut_client.specs.declared.command_line.Refusal.TheVariants.{Failed, Usage}
use Rattle.nut_client.specs.declared.failure.ToolFailure.{ToolFailure}
use Rattle.nut_client.specs.declared.failure.ToolFailure.TheVariants.{Memory}

pub refused : (line : CommandLine) (ends : Script → Result (List ℕ) ToolFailure → Type 0) (unused : Type 0) (is_unused : unused) (refusal : Refusal) (status : ℕ) (out err : Written)
    → IsRead line (Err refusal) → TellsRefusal refusal status out err → RunsAs line ends unused status out err
refused line ends unused is_unused (Usage error) status out err read told = elim told [
  | inl text ↦ explains read.0 (kind_of error) read.1 read.2 is_unused text
  | inr memory ↦ refuses Memory (inl refl) is_unused memory
]
refused line ends unused is_unused (Failed failure) status out err read told = refuses failure read is_unused told
