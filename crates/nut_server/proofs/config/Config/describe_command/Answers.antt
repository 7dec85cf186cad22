use Rattle.std.proofs.Common.{◌∙◌}
use Rattle.nut_server.proofs.Described.{own_command, other_command}
use Rattle.nut_server.proofs.config.Config.describe_command.Goals as goal

pub returns-in-Some : goal.returns-in-Some
returns-in-Some c = own_command c.args.self.now.command_texts c.args.name.now _ c.in-Some.ensures.value

pub returns-in-None : goal.returns-in-None
returns-in-None c = c.or_unavailable.ensures ∙ other_command c.args.self.now.command_texts c.args.name.now _ c.in-None.ensures.value c.command_text.ensures
