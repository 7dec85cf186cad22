-- For private functions, nothing here has to be believed: what the decision on a request has to be: its answer, and
-- its effect.
use Rattle.std.specs.Prelude.{ℕ, ◌≡◌, ◌<◌, Bool, true, false, List, length, Option, None, Some, Result, Ok, Err}
use Rattle.nut_proto.specs.declared.refusal.Refusal.{Refusal}
use Rattle.nut_proto.specs.declared.reply.Reply.{Reply}
use Rattle.nut_proto.specs.declared.request.Request.{Request}
use Rattle.nut_proto.specs.declared.request.Request.TheVariants as requests
use Rattle.nut_server_spec.specs.Command.{Command}
use Rattle.nut_server_spec.specs.Answer.{Answer, Scene, Caller, Line, accepted, answer, answer_request, refused, ups_number}
use Rattle.nut_server_spec.specs.Trace.{given_then}
use Rattle.nut_server.specs.inside.Answers.{given}
use Rattle.nut_server.specs.inside.Effects.{Does, IsPossible, given_with}
use Rattle.nut_server.specs.declared.changes.HandedOn.{HandedOn}
use Rattle.nut_server.specs.declared.effect.Effect.{Effect}
use Rattle.nut_server.specs.declared.effect.Effect.TheVariants as effects
use Rattle.nut_server.specs.declared.decision.Decision.{Decision}

-- Each UPS that has a name and a number is there.
abbrev pub AreThere : Scene → Type 0
AreThere s = (name : List ℕ) (u : ℕ) → ups_number s name ≡ Some u → u < length s.devices

-- whether a request only asks, and is answered alike for every client
abbrev pub is_question : Request → Bool
is_question requests.GetTracking = false
is_question (requests.SetVar ups variable value) = false
is_question (requests.SetTracking on) = false
is_question (requests.InstCmd ups command parameter) = false
is_question (requests.Username name) = false
is_question (requests.Password password) = false
is_question (requests.Login ups) = false
is_question (requests.Primary ups) = false
is_question (requests.Fsd ups) = false
is_question requests.Logout = false
is_question request = true

-- the answer to such a request
abbrev pub told : Scene → Request → Answer
told s request = answer_request s (record { user = None; password = None; login = None; tracking = false }) request

-- The decision gives this answer. Its effect changes what the command with this answer changes, and is possible. `line`
-- is the request to the driver, if there is one.
abbrev pub Answers : Scene → Command → Answer → Decision → List ℕ → Type 0
Answers s command reply decision line =
    (given decision.answer ≡ reply) × Does s command reply decision.effect line × IsPossible s.devices decision.effect line

-- The decision gives the answer to the command, and its effect is that of the command.
abbrev pub Decides : Scene → Caller → Command → Decision → List ℕ → Type 0
Decides s k command decision line = Answers s command (answer s k command) decision line

-- If the request is granted, its answer is this line, and the effect changes what the request with this answer changes.
-- If it isn't, its answer is the refusal.
abbrev pub Grants : Scene → Caller → Command → Reply → Result Effect Refusal → List ℕ → Type 0
Grants s k command reply (Ok effect) line =
    (answer s k command ≡ Line reply) × Does s command (Line reply) effect line × IsPossible s.devices effect line
Grants s k command reply (Err refusal) line = answer s k command ≡ refused refusal

-- The number, if there is one, is the next that is given.
abbrev pub IsNextNumber : Scene → Option ℕ → Type 0
IsNextNumber s number = given_with number s.given ≡ given_then (accepted number) s.given

-- If the request is handed on to a driver, its answer is `OK`, with the request's number if it is tracked, and the
-- effect changes what the request with this answer changes. If it isn't, its answer is the refusal.
abbrev pub HandsOn : Scene → Caller → Command → Result HandedOn Refusal → List ℕ → Type 0
HandsOn s k command (Ok request) line =
    (answer s k command ≡ accepted request.number) × Does s command (accepted request.number) (effects.Ask request.ups request.number) line
    × IsPossible s.devices (effects.Ask request.ups request.number) line
HandsOn s k command (Err refusal) line = answer s k command ≡ refused refusal
