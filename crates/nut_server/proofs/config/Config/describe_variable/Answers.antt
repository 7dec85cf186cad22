use Rattle.std.proofs.Common.{◌∙◌}
use Rattle.nut_server.proofs.Described.{own_variable, other_variable}
use Rattle.nut_server.proofs.config.Config.describe_variable.Goals as goal

pub returns-in-Some : goal.returns-in-Some
returns-in-Some c = own_variable c.args.self.now.variable_texts c.args.name.now _ c.in-Some.ensures.value

pub returns-in-None : goal.returns-in-None
returns-in-None c = c.or_unavailable.ensures ∙ other_variable c.args.self.now.variable_texts c.args.name.now _ c.in-None.ensures.value c.variable_text.ensures
