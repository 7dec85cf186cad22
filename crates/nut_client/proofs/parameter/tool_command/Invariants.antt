use Rattle.std.proofs.Common.{◌≡◌, [], fold, take}
use Rattle.clap.specs.Words.{app_of}
use Rattle.nut_client.specs.CommandLine.{command}
use Rattle.nut_client.specs.inside.Parameters.{with_parameter}
use Rattle.nut_client.proofs.parameter.tool_command.Given as goal

abbrev pub invariant-loop-parameter : goal.invariant-loop-parameter
invariant-loop-parameter l = app_of l.command ≡ fold with_parameter (command l.name []) (take l.parameter-index l.parameters)
