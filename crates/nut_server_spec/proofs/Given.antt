-- A number that an answer gives is the next one, and its request is to a UPS that exists.
use Rattle.std.proofs.Common.{arith}
use Rattle.std.proofs.Common.{◌≡◌, ℕ, ◌+◌, ◌<◌, Bool, true, false, List, length, rules, Option, Some}
use Rattle.std.specs.Prelude.{if◌then◌else◌, is_none}
use Rattle.nut_proto.specs.declared.refusal.Refusal.{Refusal}
use Rattle.nut_proto.specs.declared.refusal.Refusal.TheVariants as refusals
use Rattle.nut_proto.specs.declared.request.ListQuery.{ListQuery}
use Rattle.nut_proto.specs.declared.request.ListQuery.TheVariants as queries
use Rattle.nut_proto.specs.declared.request.Request.TheVariants as requests
use Rattle.nut_proto.specs.declared.reply.Reply.TheVariants as replies
use Rattle.nut_proto.specs.declared.driver_ask.DriverAsk.TheVariants as asks
use Rattle.nut_state.specs.Table.{variable, has_command}
use Rattle.nut_server_spec.specs.Configuration.{Ups, may_command}
use Rattle.nut_server_spec.specs.Command.{Command, Asks}
use Rattle.nut_server_spec.specs.Device.{trouble}
use Rattle.nut_server_spec.specs.Answer.{Answer, Silence, Line, Scene, Caller, refused, device_at, ups_number, on_data, may_set, misfit, parameter_misfit, set_answer, command_answer, accepted, list_answer, answer, require, check, with_credentials}
use Rattle.nut_server_spec.specs.Effect.{number_in, target}
use Rattle.nut_server_spec.proofs.Requests.{IsNext, require-case, check-case, unless-case, with_credentials-case, with_right-case, handed_on-case}
use Rattle.nut_server_spec.specs.Numbering.{with_numbers}

-- A number in this answer to the command is the next one, and the command acts on a UPS that exists.
abbrev pub IsGiven : Scene → Command → Answer → Type 0
IsGiven s command reply =
    (number : ℕ) → number_in reply ≡ Some number →
    (number ≡ s.given + 1) × ((u : ℕ) × (target (with_numbers s.configuration.upses s.numbers) command ≡ Some u) × (u < length s.devices))

module _ (s : Scene) (command : Command) where
  abbrev P : Answer → Type 0
  P reply = IsGiven s command reply

  bad : (r : Refusal) → P (refused r)
  bad r number is = cc

  of_described : (name : List ℕ) (ups : Option Ups) → P (require refusals.UnknownUps ups (λ found. Line (replies.UpsDesc name found.description)))
  of_described name ups number is = grind arith

  of_once : (refusal : Refusal) (o : Option (List ℕ)) → P (check refusal (is_none o) (Line replies.Accepted))
  of_once refusal o number is = grind arith

  of_tracking : (k : Caller) → P (with_credentials k (λ user password. Line replies.Accepted))
  of_tracking k = with_credentials-case P k (λ user password. Line replies.Accepted) bad (λ user password number is. cc)

  of_list : (query : ListQuery) → P (list_answer s query)
  of_list queries.Ups = λ number is. cc
  of_list query = search rules

  of_accepted : (number : Option ℕ) (u : ℕ) → IsNext s number → target (with_numbers s.configuration.upses s.numbers) command ≡ Some u → u < length s.devices → P (accepted number)
  of_accepted number u next there within n is = grind arith

-- Each UPS that has a name and a number is there.
abbrev pub AreKnown : Scene → Type 0
AreKnown s = (name : List ℕ) (u : ℕ) → ups_number s name ≡ Some u → u < length s.devices

set_given : (s : Scene) → AreKnown s → (k : Caller) (ups name value : List ℕ) → IsGiven s (Asks (requests.SetVar ups name value)) (answer s k (Asks (requests.SetVar ups name value)))
set_given s known k ups name value =
    let command = Asks (requests.SetVar ups name value) in
    with_right-case (IsGiven s command) s k may_set ups (λ u. on_data s u (λ d. set_answer s k d name value)) (bad s command) (λ u found.
    unless-case (IsGiven s command) (trouble s.configuration.max_age s.clock (device_at s u)) (set_answer s k (device_at s u) name value) (bad s command)
    (require-case (IsGiven s command) refusals.VarNotSupported (variable (device_at s u).table name) _ (bad s command refusals.VarNotSupported) (λ entry there.
    unless-case (IsGiven s command) (misfit entry value) _ (bad s command)
    (handed_on-case (IsGiven s command) refusals.SetFailed s k (λ number. asks.Set name value number) (device_at s u) (bad s command refusals.SetFailed)
    (λ number next holds. of_accepted s command number u next found (known ups u found))))))

command_given : (s : Scene) → AreKnown s → (k : Caller) (ups name : List ℕ) (parameter : Option (List ℕ))
    → IsGiven s (Asks (requests.InstCmd ups name parameter)) (answer s k (Asks (requests.InstCmd ups name parameter)))
command_given s known k ups name parameter =
    let command = Asks (requests.InstCmd ups name parameter) in
    with_right-case (IsGiven s command) s k (may_command name) ups (λ u. on_data s u (λ d. command_answer s k d name parameter)) (bad s command) (λ u found.
    unless-case (IsGiven s command) (trouble s.configuration.max_age s.clock (device_at s u)) (command_answer s k (device_at s u) name parameter) (bad s command)
    (check-case (IsGiven s command) refusals.CmdNotSupported (has_command (device_at s u).table name) _ (bad s command refusals.CmdNotSupported) (λ there.
    unless-case (IsGiven s command) (parameter_misfit parameter) _ (bad s command)
    (handed_on-case (IsGiven s command) refusals.InstCmdFailed s k (λ number. asks.InstCmd name parameter number) (device_at s u) (bad s command refusals.InstCmdFailed)
    (λ number next holds. of_accepted s command number u next found (known ups u found))))))

answer_given : (s : Scene) → AreKnown s → (k : Caller) (command : Command) → IsGiven s command (answer s k command)
answer_given s known k (Asks (requests.SetVar ups name value)) = set_given s known k ups name value
answer_given s known k (Asks (requests.InstCmd ups name parameter)) = command_given s known k ups name parameter
answer_given s known k (Asks (requests.List query)) = of_list s (Asks (requests.List query)) query
answer_given s known k (Asks request) = search (rules, of_described, of_once, of_tracking)
answer_given s known k other = λ number is. cc

-- the same of a client that may have logged out
pub answered_given : (s : Scene) → AreKnown s → (k : Caller) (command : Command) (out : Bool) → IsGiven s command (if out then Silence else answer s k command)
answered_given s known k command true = λ number is. cc
answered_given s known k command false = answer_given s known k command
