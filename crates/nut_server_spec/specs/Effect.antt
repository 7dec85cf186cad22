-- What a line and its answer change: of the connection, of a UPS, and of the requests to its driver.
use Rattle.std.specs.Prelude.{ℕ, ◌==◌, Bool, true, if◌then◌else◌, List, ◌++◌, Option, Some, None}
use Rattle.std.specs.Option.{option_and_then}
use Rattle.nut_proto.specs.declared.request.Request.TheVariants as requests
use Rattle.nut_proto.specs.declared.reply.Reply.TheVariants as replies
use Rattle.nut_proto.specs.declared.driver_ask.DriverAsk.TheVariants as asks
use Rattle.nut_proto.specs.DriverAsks.{ask_line}
use Rattle.nut_server_spec.specs.Numbering.{Numbering, number_of}
use Rattle.nut_server_spec.specs.Command.{Command, Asks}
use Rattle.nut_server_spec.specs.Answer.{Answer, Line}

-- Each function whose name ends in `then` gives a value after a line, from the line's command, its answer and the value
-- before.

-- the user name of a connection: that of the USERNAME that was answered OK
abbrev pub user_then : Command → Answer → Option (List ℕ) → Option (List ℕ)
user_then (Asks (requests.Username name)) (Line replies.Accepted) before = Some name
user_then command reply before = before

-- the password of a connection: that of the PASSWORD that was answered OK
abbrev pub password_then : Command → Answer → Option (List ℕ) → Option (List ℕ)
password_then (Asks (requests.Password password)) (Line replies.Accepted) before = Some password
password_then command reply before = before

-- the UPS that a connection is logged in to: that of the LOGIN that was answered OK, until a LOGOUT is answered
abbrev pub login_then : Numbering → Command → Answer → Option ℕ → Option ℕ
login_then now (Asks (requests.Login ups)) (Line replies.Accepted) before = number_of ups now
login_then now command (Line replies.Goodbye) before = None
login_then now command reply before = before

-- whether a connection has logged out: a LOGOUT was answered
abbrev pub logged_out_then : Command → Answer → Bool → Bool
logged_out_then command (Line replies.Goodbye) before = true
logged_out_then command reply before = before

-- whether the requests of a connection are tracked: as the last SET TRACKING says that was answered OK
abbrev pub tracking_then : Command → Answer → Bool → Bool
tracking_then (Asks (requests.SetTracking on)) (Line replies.Accepted) before = on
tracking_then command reply before = before

-- the number that an answer gives to a request, if it gives one
abbrev pub number_in : Answer → Option ℕ
number_in (Line (replies.AcceptedAs number)) = Some number
number_in reply = None

-- the name of the UPS on which a command acts, if it acts on one
abbrev pub target_name : Command → Option (List ℕ)
target_name (Asks (requests.SetVar ups variable value)) = Some ups
target_name (Asks (requests.InstCmd ups command parameter)) = Some ups
target_name (Asks (requests.Fsd ups)) = Some ups
target_name command = None

-- the number of the UPS on which a command acts, if it acts on one that exists
abbrev pub target : Numbering → Command → Option ℕ
target now command = option_and_then (λ name. number_of name now) (target_name command)

-- whether a shutdown of the UPS was forced, for the UPS on which the command acts
abbrev pub forced_then : Command → Answer → Bool → Bool
forced_then (Asks (requests.Fsd ups)) (Line replies.FsdSet) before = true
forced_then command reply before = before

-- the request to the driver of the UPS on which the command acts: the SET or INSTCMD that was answered OK, with the
-- number that it was given
abbrev pub request_of : Command → Answer → Option (List ℕ)
request_of (Asks (requests.SetVar ups variable value)) (Line replies.Accepted) = Some (ask_line (asks.Set variable value None))
request_of (Asks (requests.SetVar ups variable value)) (Line (replies.AcceptedAs number)) = Some (ask_line (asks.Set variable value (Some number)))
request_of (Asks (requests.InstCmd ups command parameter)) (Line replies.Accepted) = Some (ask_line (asks.InstCmd command parameter None))
request_of (Asks (requests.InstCmd ups command parameter)) (Line (replies.AcceptedAs number)) = Some (ask_line (asks.InstCmd command parameter (Some number)))
request_of command reply = None

-- the value of the UPS u after a change of the UPS on which the command acts: the same if it acts on none or on another
abbrev pub at_target : {A : Type 0} → ℕ → Option ℕ → (A → A) → A → A
at_target u None change before = before
at_target u (Some v) change before = if v == u then change before else before
