use Rattle.nut_client.specs.CommandLine.{command_of}
use Rattle.nut_client.proofs.tool.Tool.command.Goals as goal

pub returns-in-Upsc : goal.returns-in-Upsc
unfolding command_of
returns-in-Upsc c = rw c.in-Upsc.is c.tool_command.ensures

pub returns-in-Upsrw : goal.returns-in-Upsrw
unfolding command_of
returns-in-Upsrw c = rw c.in-Upsrw.is c.tool_command-in-Upsrw.ensures

pub returns-in-Upscmd : goal.returns-in-Upscmd
unfolding command_of
returns-in-Upscmd c = rw c.in-Upscmd.is c.tool_command-in-Upscmd.ensures
