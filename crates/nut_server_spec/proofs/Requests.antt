-- A client's request to a driver fits behind what waits for the driver.
use Rattle.std.proofs.Common.{◌≡◌, ℕ, ◌+◌, ◌≤◌, Bool, true, false, List, refl, arith, Option, Some, None}
use Rattle.std.specs.Prelude.{if◌then◌else◌, nat_lt}
use Rattle.std.proofs.lemmas.Bool.{ltb-true}
use Rattle.nut_proto.specs.declared.refusal.Refusal.{Refusal}
use Rattle.nut_proto.specs.declared.refusal.Refusal.TheVariants as refusals
use Rattle.nut_proto.specs.declared.request.Request.TheVariants as requests
use Rattle.nut_proto.specs.declared.driver_ask.DriverAsk.{DriverAsk}
use Rattle.nut_proto.specs.declared.driver_ask.DriverAsk.TheVariants as asks
use Rattle.nut_proto.specs.declared.limits.TheConstants.{TRACKING_NUMBER_MAX}
use Rattle.nut_proto.specs.DriverAsks.{ask_line}
use Rattle.nut_state.specs.Table.{variable, has_command}
use Rattle.nut_server_spec.specs.Configuration.{User, user_named, may_command}
use Rattle.nut_server_spec.specs.Command.{Command, Asks}
use Rattle.nut_server_spec.specs.Device.{Device, trouble, fits}
use Rattle.nut_server_spec.specs.Answer.{Answer, Silence, Scene, Caller, refused, require, check, unless, with_credentials, with_right, on_data, device_at, has_right, may_set, misfit, parameter_misfit, numbered, accepted, handed_on, set_answer, command_answer, answer, ups_number}
use Rattle.nut_server_spec.specs.Effect.{target, request_of}
use Rattle.nut_server_spec.specs.Numbering.{with_numbers}

-- ---- what holds of every refusal, and of the next step of a test, holds of the answer

pub require-case : {A : Type 0} (P : Answer → Type 0) (refusal : Refusal) (o : Option A) (next : A → Answer) → P (refused refusal) → ((x : A) → o ≡ Some x → P (next x)) → P (require refusal o next)
require-case P refusal None next bad good = bad
require-case P refusal (Some x) next bad good = good x refl

pub check-case : (P : Answer → Type 0) (refusal : Refusal) (holds : Bool) (next : Answer) → P (refused refusal) → (holds ≡ true → P next) → P (check refusal holds next)
check-case P refusal true next bad good = good refl
check-case P refusal false next bad good = bad

pub unless-case : (P : Answer → Type 0) (o : Option Refusal) (next : Answer) → ((r : Refusal) → P (refused r)) → P next → P (unless o next)
unless-case P None next bad good = good
unless-case P (Some r) next bad good = bad r

pub with_credentials-case : (P : Answer → Type 0) (k : Caller) (next : List ℕ → List ℕ → Answer) → ((r : Refusal) → P (refused r))
    → ((user password : List ℕ) → P (next user password)) → P (with_credentials k next)
with_credentials-case P k next bad good =
    require-case P refusals.UsernameRequired k.user _ (bad refusals.UsernameRequired) (λ user given.
    require-case P refusals.PasswordRequired k.password (next user) (bad refusals.PasswordRequired) (λ password given'. good user password))

pub with_right-case : (P : Answer → Type 0) (s : Scene) (k : Caller) (right : User → Bool) (name : List ℕ) (next : ℕ → Answer) → ((r : Refusal) → P (refused r))
    → ((u : ℕ) → ups_number s name ≡ Some u → P (next u)) → P (with_right s k right name next)
with_right-case P s k right name next bad good =
    with_credentials-case P k _ bad (λ user password.
    require-case P refusals.UnknownUps (ups_number s name) _ (bad refusals.UnknownUps) (λ u found.
    check-case P refusals.AccessDenied (has_right right password (user_named user s.configuration.users)) (next u) (bad refusals.AccessDenied) (λ holds. good u found)))

-- ---- SET and INSTCMD

-- ---- numbers

-- the number of a request, if it has one, is the next one
abbrev pub IsNext : Scene → Option ℕ → Type 0
IsNext s None = Unit {0}
IsNext s (Some number) = (number ≡ s.given + 1) × (number ≤ TRACKING_NUMBER_MAX)

pub numbered-case : (P : Answer → Type 0) (refusal : Refusal) (s : Scene) (k : Caller) (next : Option ℕ → Answer) → P (refused refusal)
    → ((number : Option ℕ) → IsNext s number → P (next number)) → P (numbered refusal s k next)
numbered-case P refusal s k next bad good = by k.tracking where
  by : (tracking : Bool) → P (if tracking then check refusal (nat_lt s.given TRACKING_NUMBER_MAX) (next (Some (s.given + 1))) else next None)
  by true = check-case P refusal (nat_lt s.given TRACKING_NUMBER_MAX) _ bad (λ less. good (Some (s.given + 1)) (refl, omega (arith, ltb-true s.given TRACKING_NUMBER_MAX less)))
  by false = good None tt

-- what holds of each refusal, and of the answer to a request that fits, holds of the answer to one that is handed on
pub handed_on-case : (P : Answer → Type 0) (refusal : Refusal) (s : Scene) (k : Caller) (ask : Option ℕ → DriverAsk) (d : Device) → P (refused refusal)
    → ((number : Option ℕ) → IsNext s number → fits (ask_line (ask number)) d ≡ true → P (accepted number)) → P (handed_on refusal s k ask d)
handed_on-case P refusal s k ask d bad good =
    numbered-case P refusal s k _ bad (λ number next. check-case P refusal (fits (ask_line (ask number)) d) (accepted number) bad (good number next))

set-fits : (s : Scene) (k : Caller) (ups name value : List ℕ) (v : ℕ) → ups_number s ups ≡ Some v → (line : List ℕ)
    → request_of (Asks (requests.SetVar ups name value)) (answer s k (Asks (requests.SetVar ups name value))) ≡ Some line → fits line (device_at s v) ≡ true
set-fits s k ups name value v place line =
    with_right-case P s k may_set ups (λ u. on_data s u (λ d. set_answer s k d name value)) (λ r bad. cc) (λ u found.
    unless-case P (trouble s.configuration.max_age s.clock (device_at s u)) (set_answer s k (device_at s u) name value) (λ r bad. cc)
    (require-case P refusals.VarNotSupported (variable (device_at s u).table name) _ (λ bad. cc) (λ entry there.
    unless-case P (misfit entry value) _ (λ r bad. cc)
    (handed_on-case P refusals.SetFailed s k (λ number. asks.Set name value number) (device_at s u) (λ bad. cc) (λ number next. by u found number))))) where
      P : Answer → Type 0
      P reply = request_of (Asks (requests.SetVar ups name value)) reply ≡ Some line → fits line (device_at s v) ≡ true

      by : (u : ℕ) → ups_number s ups ≡ Some u → (number : Option ℕ) → fits (ask_line (asks.Set name value number)) (device_at s u) ≡ true → P (accepted number)
      by u found number holds is = grind arith

command-fits : (s : Scene) (k : Caller) (ups name : List ℕ) (parameter : Option (List ℕ)) (v : ℕ) → ups_number s ups ≡ Some v → (line : List ℕ)
    → request_of (Asks (requests.InstCmd ups name parameter)) (answer s k (Asks (requests.InstCmd ups name parameter))) ≡ Some line → fits line (device_at s v) ≡ true
command-fits s k ups name parameter v place line =
    with_right-case P s k (may_command name) ups (λ u. on_data s u (λ d. command_answer s k d name parameter)) (λ r bad. cc) (λ u found.
    unless-case P (trouble s.configuration.max_age s.clock (device_at s u)) (command_answer s k (device_at s u) name parameter) (λ r bad. cc)
    (check-case P refusals.CmdNotSupported (has_command (device_at s u).table name) _ (λ bad. cc) (λ there.
    unless-case P (parameter_misfit parameter) _ (λ r bad. cc)
    (handed_on-case P refusals.InstCmdFailed s k (λ number. asks.InstCmd name parameter number) (device_at s u) (λ bad. cc) (λ number next. by u found number))))) where
      P : Answer → Type 0
      P reply = request_of (Asks (requests.InstCmd ups name parameter)) reply ≡ Some line → fits line (device_at s v) ≡ true

      by : (u : ℕ) → ups_number s ups ≡ Some u → (number : Option ℕ) → fits (ask_line (asks.InstCmd name parameter number)) (device_at s u) ≡ true → P (accepted number)
      by u found number holds is = grind arith

-- A line's request to a driver fits behind what waits for it. The line of a client that has logged out makes no
-- request.
pub asked-fits : (s : Scene) (k : Caller) (command : Command) (v : ℕ) (out : Bool) → target (with_numbers s.configuration.upses s.numbers) command ≡ Some v → (line : List ℕ)
    → request_of command (if out then Silence else answer s k command) ≡ Some line → fits line (device_at s v) ≡ true
asked-fits s k command v out goal line is = grind (arith, set-fits, command-fits)

-- ---- a number in an answer is the next one
