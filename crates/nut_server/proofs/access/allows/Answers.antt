use Rattle.std.proofs.Common.{◌∙◌}
use Rattle.nut_server.proofs.FromFiles.{covered}
use Rattle.nut_server.proofs.access.allows.Goals as goal

pub returns-in-Command : goal.returns-in-Command
returns-in-Command c = λ name. rw c.in-Command.is (c.may_command.ensures ∙ covered c.in-Command.name.now c.args.user.now.instcmds.items)
