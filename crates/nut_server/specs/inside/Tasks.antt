-- For private functions, nothing here has to be believed: what clients ask drivers to do.
use Rattle.std.specs.Prelude.{ℕ, Bool, List, Option, None, Some, if◌then◌else◌}
use Rattle.nut_proto.specs.declared.driver_ask.DriverAsk.{DriverAsk}
use Rattle.nut_proto.specs.declared.driver_ask.DriverAsk.TheVariants as asks
use Rattle.nut_proto.specs.declared.refusal.Refusal.{Refusal}
use Rattle.nut_proto.specs.declared.refusal.Refusal.TheVariants as refusals
use Rattle.nut_proto.specs.declared.request.Request.{Request}
use Rattle.nut_proto.specs.declared.request.Request.TheVariants as requests
use Rattle.nut_state.specs.Table.{Entry, has_command}
use Rattle.nut_state.specs.Table as tables
use Rattle.nut_server_spec.specs.Answer.{Answer, Caller, Scene, command_answer, may_set, misfit, parameter_misfit, set_answer}
use Rattle.nut_server_spec.specs.Configuration.{User, may_command}
use Rattle.nut_server_spec.specs.Device.{Device}
use Rattle.nut_server.specs.declared.changes.DriverTask.{DriverTask}
use Rattle.nut_server.specs.declared.changes.DriverTask.TheVariants as tasks

-- the request of a client for it
abbrev pub task_request : List ℕ → DriverTask → Request
task_request ups (tasks.Set variable value) = requests.SetVar ups variable value
task_request ups (tasks.Run command parameter) = requests.InstCmd ups command parameter

-- whether a user may have it done
abbrev pub right_to : DriverTask → User → Bool
right_to (tasks.Set variable value) user = may_set user
right_to (tasks.Run command parameter) user = may_command command user

-- the answer to the request, after the tests of the user, the UPS and its data
abbrev pub task_answer : Scene → Caller → DriverTask → Device → Answer
task_answer s k (tasks.Set variable value) d = set_answer s k d variable value
task_answer s k (tasks.Run command parameter) d = command_answer s k d command parameter

-- why a variable that was looked for can't be set to a value
abbrev pub entry_misfit : List ℕ → Option Entry → Option Refusal
entry_misfit value None = Some refusals.VarNotSupported
entry_misfit value (Some v) = misfit v value

-- why a UPS can't do it
abbrev pub task_misfit : DriverTask → Device → Option Refusal
task_misfit (tasks.Set variable value) d = entry_misfit value (tables.variable d.table variable)
task_misfit (tasks.Run command parameter) d =
    if has_command d.table command then parameter_misfit parameter else Some refusals.CmdNotSupported

-- the refusal if it can't be handed on
abbrev pub task_failure : DriverTask → Refusal
task_failure (tasks.Set variable value) = refusals.SetFailed
task_failure (tasks.Run command parameter) = refusals.InstCmdFailed

-- the request to the driver, with this number if it is tracked
abbrev pub task_ask : DriverTask → Option ℕ → DriverAsk
task_ask (tasks.Set variable value) number = asks.Set variable value number
task_ask (tasks.Run command parameter) number = asks.InstCmd command parameter number
