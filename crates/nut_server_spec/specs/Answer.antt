-- How a server answers a client's line (RFC 9271; NUT developer guide, chapter 9).
use Rattle.std.specs.Prelude.{ℕ, ℤ, ◌+◌, ◌==◌, Bool, true, false, not, ◌&&◌, ◌||◌, nat_lt, int_le, if◌then◌else◌, List, [], ◌∷◌, ◌++◌, codes, length, map, filter, find, flat_map, slice_index_or, Option, Some, None, is_some, is_none}
use Rattle.std.specs.List.{list_any}
use Rattle.std.specs.Option.{option_map_or}
use Rattle.std.specs.Str.{bytes_eq}
use Rattle.nut_words.specs.declared.limits.TheConstants.{VALUE_MAX}
use Rattle.nut_conf.specs.declared.users.Action.TheVariants as actions
use Rattle.nut_conf.specs.declared.users.Role.{Role}
use Rattle.nut_conf.specs.declared.users.Role.TheVariants as roles
use Rattle.nut_state.specs.Attribute.{lists_enum}
use Rattle.nut_state.specs.Number.{whole_number}
use Rattle.nut_state.specs.Table.{Entry, variable, has_command}
use Rattle.nut_state.specs.declared.number.Range.{Range}
use Rattle.nut_proto.specs.declared.refusal.Refusal.{Refusal}
use Rattle.nut_proto.specs.declared.refusal.Refusal.TheVariants as refusals
use Rattle.nut_proto.specs.declared.request.Request.{Request}
use Rattle.nut_proto.specs.declared.request.Request.TheVariants as requests
use Rattle.nut_proto.specs.declared.request.ListQuery.{ListQuery}
use Rattle.nut_proto.specs.declared.request.ListQuery.TheVariants as queries
use Rattle.nut_proto.specs.declared.reply.Reply.{Reply}
use Rattle.nut_proto.specs.declared.reply.Reply.TheVariants as replies
use Rattle.nut_proto.specs.declared.reply.VariableKind.{VariableKind}
use Rattle.nut_proto.specs.declared.reply.VariableKind.TheVariants as kinds
use Rattle.nut_proto.specs.declared.driver_ask.DriverAsk.{DriverAsk}
use Rattle.nut_proto.specs.declared.driver_ask.DriverAsk.TheVariants as asks
use Rattle.nut_proto.specs.declared.limits.TheConstants.{TRACKING_NUMBER_MAX}
use Rattle.nut_proto.specs.declared.tracking.TrackingStatus.{TrackingStatus}
use Rattle.nut_proto.specs.declared.tracking.TrackingStatus.TheVariants as statuses
use Rattle.nut_proto.specs.Descriptions.{variable_description, command_description}
use Rattle.nut_proto.specs.DriverAsks.{ask_line}
use Rattle.nut_proto.specs.Replies.{reply_line}
use Rattle.nut_proto.specs.Requests.{begin_line, end_line}
use Rattle.nut_server_spec.specs.Configuration.{Ups, User, Configuration, ups_named, user_named, has_password, may_act, may_command}
use Rattle.nut_server_spec.specs.Command.{Command, Blank, Malformed, Asks}
use Rattle.nut_server_spec.specs.Device.{Device, absent, trouble, fits}
use Rattle.nut_server_spec.specs.Numbering.{Numbering, with_numbers, number_of}

-- An answer before it is written as bytes: nothing, one line, or the rows of a list between its first and its last
-- line.
pub data Answer : Type 0 where
  Silence : Answer
  Line : (reply : Reply) → Answer
  Listing : (query : ListQuery) (rows : List Reply) → Answer

-- the bytes of an answer
unfoldable pub text_of : Answer → List ℕ
text_of Silence = []
text_of (Line reply) = reply_line reply
text_of (Listing query rows) = begin_line query ++ (flat_map reply_line rows ++ end_line query)

-- an open connection: its address, and the number of the UPS that it is logged in to, if any
pub record Guest : Type 0 where
  pub address : List ℕ
  pub login : Option ℕ

-- What the server knows when it answers a line: the configuration, the numbers of its UPSes, the time, how many numbers it
-- gave to requests, the UPSes by their numbers, and the open connections by rising number.
pub record Scene : Type 0 where
  pub configuration : Configuration
  pub numbers : List ℕ
  pub clock : ℕ
  pub given : ℕ
  pub devices : List Device
  pub guests : List Guest

-- what the server knows of the connection whose line it answers: the user and the password that it gave, the UPS that it
-- is logged in to, and whether its requests are tracked
pub record Caller : Type 0 where
  pub user : Option (List ℕ)
  pub password : Option (List ℕ)
  pub login : Option ℕ
  pub tracking : Bool

-- the answer `ERR` with this refusal
abbrev pub refused : Refusal → Answer
refused refusal = Line (replies.Refused refusal)

-- the number of the UPS with this name, if there is one
abbrev pub ups_number : Scene → List ℕ → Option ℕ
ups_number s name = number_of name (with_numbers s.configuration.upses s.numbers)

-- the UPS with this number, or one without a driver if there is none
abbrev pub device_at : Scene → ℕ → Device
device_at s u = slice_index_or s.devices u absent

-- ---- tests: each gives the answer of the next step, or refuses

-- the next step with x, if there is one; else the refusal
abbrev pub require : {A : Type 0} → Refusal → Option A → (A → Answer) → Answer
require refusal None next = refused refusal
require refusal (Some x) next = next x

-- the next step if the test holds; else the refusal
abbrev pub check : Refusal → Bool → Answer → Answer
check refusal holds next = if holds then next else refused refusal

-- the refusal, if there is one; else the next step
abbrev pub unless : Option Refusal → Answer → Answer
unless None next = next
unless (Some refusal) next = refused refusal

-- the next step with the number of the UPS of this name; `UNKNOWN-UPS` if there is none
abbrev pub on_ups : Scene → List ℕ → (ℕ → Answer) → Answer
on_ups s name next = require refusals.UnknownUps (ups_number s name) next

-- the next step with the UPS u, if its driver is connected and its data are current; else the refusal that says which
-- is not so
abbrev pub on_data : Scene → ℕ → (Device → Answer) → Answer
on_data s u next = unless (trouble s.configuration.max_age s.clock (device_at s u)) (next (device_at s u))

-- the next step with the UPS of this name, after the two tests above
abbrev pub on_device : Scene → List ℕ → (Device → Answer) → Answer
on_device s name next = on_ups s name (λ u. on_data s u next)

-- the next step with the variable of this name; `VAR-NOT-SUPPORTED` if the UPS has none
abbrev pub on_variable : List ℕ → Device → (Entry → Answer) → Answer
on_variable name d next = require refusals.VarNotSupported (variable d.table name) next

-- the next step if the UPS has a command with this name; else `CMD-NOT-SUPPORTED`
abbrev pub on_command : List ℕ → Device → Answer → Answer
on_command name d next = check refusals.CmdNotSupported (has_command d.table name) next

-- ---- numbers

-- The next step of a request with its number, if the connection's requests are tracked: numbers rise by one from 1. Once
-- all are given, the refusal.
abbrev pub numbered : Refusal → Scene → Caller → (Option ℕ → Answer) → Answer
numbered refusal s k next =
    if k.tracking then check refusal (nat_lt s.given TRACKING_NUMBER_MAX) (next (Some (s.given + 1))) else next None

-- the answer to a request that is handed on to a driver, with its number if it has one
abbrev pub accepted : Option ℕ → Answer
accepted None = Line replies.Accepted
accepted (Some number) = Line (replies.AcceptedAs number)

-- How the request with this number ended. `Unknown` if no UPS remembers it.
abbrev pub status_of : ℕ → List Device → TrackingStatus
status_of number devices = option_map_or (λ t. t.status) (find (λ t. t.number == number) (flat_map (λ d. d.tracked) devices)) statuses.Unknown

-- ---- rights

-- whether there is such a user, this is the user's password, and the user has the right
abbrev pub has_right : (User → Bool) → List ℕ → Option User → Bool
has_right right password None = false
has_right right password (Some user) = has_password password user && right user

-- the next step with the user name and the password that the client gave; `USERNAME-REQUIRED` or `PASSWORD-REQUIRED` if
-- it gave none
abbrev pub with_credentials : Caller → (List ℕ → List ℕ → Answer) → Answer
with_credentials k next = require refusals.UsernameRequired k.user (λ user. require refusals.PasswordRequired k.password (next user))

-- The next step of SET VAR, INSTCMD, LOGIN, PRIMARY and FSD, with the number of the UPS. The tests in their order: the
-- client gave a user name, it gave a password, there is a UPS of this name, and there is such a user with this password
-- and this right.
abbrev pub with_right : Scene → Caller → (User → Bool) → List ℕ → (ℕ → Answer) → Answer
with_right s k right name next = with_credentials k (λ user password.
    on_ups s name (λ u. check refusals.AccessDenied (has_right right password (user_named user s.configuration.users)) (next u)))

abbrev pub is_primary : Option Role → Bool
is_primary (Some roles.Primary) = true
is_primary role = false

-- whether the user may log in: `upsmon primary` or `upsmon secondary`
abbrev pub may_log_in : User → Bool
may_log_in user = is_some user.role

-- whether the user may be primary: `upsmon primary`
abbrev pub may_be_primary : User → Bool
may_be_primary user = is_primary user.role

-- whether the user may force a shutdown: `upsmon primary` or `actions = FSD`
abbrev pub may_force : User → Bool
may_force user = is_primary user.role || may_act actions.Fsd user

-- whether the user may set variables: `actions = SET`
abbrev pub may_set : User → Bool
may_set user = may_act actions.Set user

-- ---- what clients see of a UPS

-- the value that clients see of a variable: `ups.status` begins with `FSD ` if a shutdown of the UPS was forced
abbrev pub shown : Device → Entry → List ℕ
shown d v = if d.forced && bytes_eq v.name (codes "ups.status") then codes "FSD " ++ v.value else v.value

-- The kind of a variable. If it has enum values it is an enum, else if it has ranges it is a range, else if it has the
-- flag STRING it is a text of at most `aux` bytes, else it is a number.
abbrev pub kind_of : Entry → VariableKind
kind_of v =
    if not (length v.enums == 0) then kinds.Enum else
    if not (length v.ranges == 0) then kinds.Range else
    if v.flags.string then kinds.String v.aux else kinds.Number

-- whether a login is one to the UPS u
abbrev pub is_logged_in : ℕ → Option ℕ → Bool
is_logged_in u None = false
is_logged_in u (Some v) = v == u

-- the connections that are logged in to the UPS u
abbrev pub guests_of : ℕ → List Guest → List Guest
guests_of u guests = filter (λ g. is_logged_in u g.login) guests

-- ---- GET and LIST

-- the answer to GET VAR, and a row of LIST VAR
abbrev pub var_row : List ℕ → Device → Entry → Reply
var_row ups d v = replies.Var ups v.name (shown d v)

abbrev pub list_answer : Scene → ListQuery → Answer
list_answer s queries.Ups = Listing queries.Ups (map (λ ups. replies.Ups ups.name ups.description) s.configuration.upses)
list_answer s (queries.Var ups) = on_device s ups (λ d. Listing (queries.Var ups) (map (var_row ups d) d.table.variables))
list_answer s (queries.Rw ups) =
    on_device s ups (λ d. Listing (queries.Rw ups)
    (map (λ v. replies.Rw ups v.name (shown d v)) (filter (λ v. v.flags.writable) d.table.variables)))
list_answer s (queries.Cmd ups) = on_device s ups (λ d. Listing (queries.Cmd ups) (map (λ k. replies.Cmd ups k) d.table.commands))
list_answer s (queries.Enum ups name) =
    on_device s ups (λ d. on_variable name d (λ v. Listing (queries.Enum ups name) (map (λ x. replies.Enum ups name x) v.enums)))
list_answer s (queries.Range ups name) =
    on_device s ups (λ d. on_variable name d (λ v. Listing (queries.Range ups name) (map (λ r. replies.Range ups name r.minimum r.maximum) v.ranges)))
list_answer s (queries.Client ups) =
    on_ups s ups (λ u. on_data s u (λ d. Listing (queries.Client ups) (map (λ g. replies.Client ups g.address) (guests_of u s.guests))))

-- ---- SET and INSTCMD

-- whether the number is in the range; both ends belong to it
abbrev pub is_in_range : ℤ → Range → Bool
is_in_range n range = int_le range.minimum n && int_le n range.maximum

-- why a variable doesn't allow a value that isn't too long, by the kind of the variable
abbrev pub misfit_by : VariableKind → Entry → List ℕ → Option Refusal
misfit_by kinds.Enum v value = if lists_enum value v.enums then None else Some refusals.InvalidValue
misfit_by kinds.Range v value =
    if option_map_or (λ n. list_any (is_in_range n) v.ranges) (whole_number value) false then None else Some refusals.InvalidValue
misfit_by (kinds.String most) v value = if nat_lt most (length value) then Some refusals.TooLong else None
misfit_by kinds.Number v value = None

-- why a variable can't be set to a value: clients may not set it, the value has more than VALUE_MAX bytes, or the
-- variable's kind doesn't allow it
abbrev pub misfit : Entry → List ℕ → Option Refusal
misfit v value =
    if not v.flags.writable then Some refusals.ReadOnly else
    if nat_lt VALUE_MAX (length value) then Some refusals.TooLong else misfit_by (kind_of v) v value

-- why a command can't be given a parameter: it has more than VALUE_MAX bytes
abbrev pub parameter_misfit : Option (List ℕ) → Option Refusal
parameter_misfit None = None
parameter_misfit (Some parameter) = if nat_lt VALUE_MAX (length parameter) then Some refusals.TooLong else None

-- `OK` if the request, with its number if it is given one, fits behind those that wait for the driver; else the refusal
abbrev pub handed_on : Refusal → Scene → Caller → (Option ℕ → DriverAsk) → Device → Answer
handed_on refusal s k ask d = numbered refusal s k (λ number. check refusal (fits (ask_line (ask number)) d) (accepted number))

-- the answer to SET VAR, after the tests of the user, the UPS and its data
abbrev pub set_answer : Scene → Caller → Device → List ℕ → List ℕ → Answer
set_answer s k d name value =
    on_variable name d (λ v. unless (misfit v value) (handed_on refusals.SetFailed s k (λ number. asks.Set name value number) d))

-- the answer to INSTCMD, after the tests of the user, the UPS and its data
abbrev pub command_answer : Scene → Caller → Device → List ℕ → Option (List ℕ) → Answer
command_answer s k d name parameter =
    on_command name d (unless (parameter_misfit parameter) (handed_on refusals.InstCmdFailed s k (λ number. asks.InstCmd name parameter number) d))

-- ---- all requests

-- The answer to a request: the refusal of the first test that fails, or what was asked for.
abbrev pub answer_request : Scene → Caller → Request → Answer
answer_request s k (requests.GetNumLogins ups) = on_ups s ups (λ u. on_data s u (λ d. Line (replies.NumLogins ups (length (guests_of u s.guests)))))
answer_request s k (requests.GetUpsDesc name) =
    require refusals.UnknownUps (ups_named name s.configuration.upses) (λ ups. Line (replies.UpsDesc name ups.description))
answer_request s k (requests.GetVar ups name) = on_device s ups (λ d. on_variable name d (λ v. Line (var_row ups d v)))
answer_request s k (requests.GetType ups name) =
    on_device s ups (λ d. on_variable name d (λ v. Line (replies.Type ups v.name v.flags.writable (kind_of v))))
answer_request s k (requests.GetDesc ups name) = on_device s ups (λ d. on_variable name d (λ v. Line (replies.Desc ups name (variable_description s.configuration.variable_texts name))))
answer_request s k (requests.GetCmdDesc ups name) = on_device s ups (λ d. on_command name d (Line (replies.CmdDesc ups name (command_description s.configuration.command_texts name))))
answer_request s k requests.GetTracking = Line (replies.TrackingIs k.tracking)
answer_request s k (requests.GetTrackingOf number) = Line (replies.Tracking number (status_of number s.devices))
answer_request s k (requests.List query) = list_answer s query
answer_request s k (requests.SetVar ups name value) = with_right s k may_set ups (λ u. on_data s u (λ d. set_answer s k d name value))
answer_request s k (requests.SetTracking on) = with_credentials k (λ user password. Line replies.Accepted)
answer_request s k (requests.InstCmd ups name parameter) = with_right s k (may_command name) ups (λ u. on_data s u (λ d. command_answer s k d name parameter))
answer_request s k (requests.Username name) = check refusals.AlreadySetUsername (is_none k.user) (Line replies.Accepted)
answer_request s k (requests.Password password) = check refusals.AlreadySetPassword (is_none k.password) (Line replies.Accepted)
answer_request s k (requests.Login ups) = with_right s k may_log_in ups (λ u. check refusals.AlreadyLoggedIn (is_none k.login) (Line replies.Accepted))
answer_request s k (requests.Primary ups) = with_right s k may_be_primary ups (λ u. Line replies.Accepted)
answer_request s k (requests.Fsd ups) = with_right s k may_force ups (λ u. Line replies.FsdSet)
answer_request s k requests.Logout = Line replies.Goodbye
answer_request s k requests.Ver = Line replies.Version
answer_request s k requests.NetVer = Line replies.NetworkVersion
answer_request s k requests.Help = Line replies.Commands
answer_request s k requests.StartTls = refused refusals.FeatureNotConfigured

-- the answer to a line: nothing to a blank one, and a refusal to one whose form is wrong
abbrev pub answer : Scene → Caller → Command → Answer
answer s k Blank = Silence
answer s k (Malformed refusal) = refused refusal
answer s k (Asks request) = answer_request s k request
