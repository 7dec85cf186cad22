-- How the code makes a tool's command of its parameters.
use Rattle.clap.specs.Words.{App, Rule, with_rule}
use Rattle.nut_client.specs.CommandLine.{argument, flag, valued}
use Rattle.nut_client.specs.declared.parameter.Parameter.{Parameter}
use Rattle.nut_client.specs.declared.parameter.Parameter.TheVariants as parameters

abbrev pub rule_at : Parameter → Rule
rule_at (parameters.Flag id letter help) = flag id.now letter
rule_at (parameters.Valued id letter kind help) = valued id.now letter
rule_at (parameters.Argument id kind help) = argument id.now

abbrev pub with_parameter : App → Parameter → App
with_parameter app parameter = with_rule app (rule_at parameter)
