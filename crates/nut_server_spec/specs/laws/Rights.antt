-- What needs a right, and that nobody gets it without that right (upsd.users(5)).
use Rattle.std.specs.Prelude.{ℕ, ◌≡◌, ◌⊎◌, Bool, true, false, List, [], ◌∷◌, Option, Some, None, Contains}
use Rattle.nut_words.specs.Lines.{LineText}
use Rattle.nut_proto.specs.declared.request.Request.{Request}
use Rattle.nut_proto.specs.declared.request.Request.TheVariants as requests
use Rattle.nut_proto.specs.declared.reply.Reply.TheVariants as replies
use Rattle.nut_server_spec.specs.Answer.{Answer, Silence, Line, may_log_in, may_be_primary, may_force, may_set}
use Rattle.nut_server_spec.specs.Command.{Asks, command_of}
use Rattle.nut_server_spec.specs.Configuration.{User, Configuration, may_command}
use Rattle.nut_server_spec.specs.Content.{past}
use Rattle.nut_server_spec.specs.Event.{Event, Said}
use Rattle.nut_server_spec.specs.Trace.{Entry, configuration, forced, login}

-- the right that a request needs, if it needs one
abbrev pub right_for : Request → Option (User → Bool)
right_for (requests.SetVar ups name value) = Some may_set
right_for (requests.InstCmd ups name parameter) = Some (may_command name)
right_for (requests.Login ups) = Some may_log_in
right_for (requests.Primary ups) = Some may_be_primary
right_for (requests.Fsd ups) = Some may_force
right_for request = None

-- whether an answer grants what was asked for: it is neither ERR nor the silence after LOGOUT
abbrev pub grants : Answer → Bool
grants Silence = false
grants (Line (replies.Refused refusal)) = false
grants reply = true

-- This holds at some entry of a past, or at each, by the entry and the past before it.
abbrev pub AtSome : (Entry → List Entry → Type 0) → List Entry → Type 0
AtSome P [] = ⊥
AtSome P (e ∷ before) = P e before ⊎ AtSome P before

abbrev pub AtEach : (Entry → List Entry → Type 0) → List Entry → Type 0
AtEach P [] = Unit {0}
AtEach P (e ∷ before) = P e before × AtEach P before

-- c asked for this, and got this answer.
abbrev pub Gets : ℕ → Request → Answer → Entry → Type 0
Gets c request reply e = (line : LineText) × (e.step ≡ Said c line) × (command_of line ≡ Asks request) × (e.answer ≡ reply)

-- c has said this, and was answered OK.
abbrev pub HasSaid : ℕ → Request → List Entry → Type 0
HasSaid c request past = AtSome (λ e before. Gets c request (Line replies.Accepted) e) past

-- c has given the name and the password of a user who has this right, by the configuration in force.
pub record HasRight (first : Configuration) (right : User → Bool) (c : ℕ) (past : List Entry) : Type 0 where
  pub user : User
  pub configured : Contains (configuration first past).users user
  pub may : right user ≡ true
  pub name : HasSaid c (requests.Username user.name) past
  pub password : List ℕ
  pub own : user.password ≡ Some password
  pub given : HasSaid c (requests.Password password) past

-- What needs a right is granted to c only if c has it.
abbrev pub GrantsRightly : Configuration → Entry → List Entry → Type 0
GrantsRightly first e before =
    (c : ℕ) (request : Request) (right : User → Bool) →
    Gets c request e.answer e → grants e.answer ≡ true → right_for request ≡ Some right → HasRight first right c before

-- A line has no driver asked for anything, forces no shutdown, and logs nobody in.
pub record IsIdle (first : Configuration) (e : Entry) (before : List Entry) : Type 0 where
  pub asks : (u : ℕ) → e.asks u ≡ None
  pub forces : (u : ℕ) → forced first u (e ∷ before) ≡ forced first u before
  pub logs_in : (c : ℕ) → (login first c (e ∷ before) ≡ login first c before) ⊎ (login first c (e ∷ before) ≡ None)

-- A line of c that isn't idle asks for what needs a right that c has.
abbrev pub ActsRightly : Configuration → Entry → List Entry → Type 0
ActsRightly first e before =
    (c : ℕ) (line : LineText) → e.step ≡ Said c line →
    IsIdle first e before
    ⊎ ((request : Request) × (right : User → Bool) × Gets c request e.answer e × (right_for request ≡ Some right) × HasRight first right c before)

-- No SET VAR, INSTCMD, LOGIN, PRIMARY or FSD is granted, and nothing comes of one, but on a connection that has the right.
pub record NothingWithoutTheRight : Type 0 where
  pub granted : (first : Configuration) (h : List Event) → AtEach (GrantsRightly first) (past first h)
  pub done : (first : Configuration) (h : List Event) → AtEach (ActsRightly first) (past first h)
