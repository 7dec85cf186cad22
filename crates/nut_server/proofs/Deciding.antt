-- The decision on a request is what its answer requires.
use Rattle.std.proofs.Common.{◌≡◌, ℕ, ◌<◌, suc, zero, Bool, true, false, List, [], ◌∷◌, refl, sym, ◌∙◌, ap, arith, length, Result, Ok, Err, Option, None, inl, inr, slice_index_or, Some}
use Rattle.std.specs.Prelude.{MatchResult, map, if◌then◌else◌}
use Rattle.std.proofs.lemmas.Bool.{cases_Bool}
use Rattle.nut_state.specs.Table.{Entry, variable, has_command}
use Rattle.nut_proto.specs.declared.refusal.Refusal.{Refusal}
use Rattle.nut_proto.specs.declared.reply.Reply.{Reply}
use Rattle.nut_server_spec.specs.Answer.{Answer, Scene, Caller, Line, accepted, answer_request, check, refused, device_at, handed_on, misfit, on_data, parameter_misfit, require, unless, with_right, ups_number}
use Rattle.nut_server_spec.specs.Command.{Command, Blank, Asks}
use Rattle.nut_server_spec.specs.Content.{Supply}
use Rattle.nut_proto.specs.declared.refusal.Refusal.TheVariants.{CmdNotSupported, DriverNotConnected, InstCmdFailed, SetFailed, VarNotSupported}
use Rattle.nut_proto.specs.declared.reply.Reply.TheVariants as replies
use Rattle.nut_proto.specs.declared.request.Request.{Request}
use Rattle.nut_proto.specs.declared.request.Request.TheVariants as requests
use Rattle.nut_proto.specs.declared.driver_ask.DriverAsk.TheVariants as asks
use Rattle.nut_proto.specs.DriverAsks.{ask_line}
use Rattle.nut_server_spec.specs.Effect.{target}
use Rattle.nut_server_spec.specs.Device.{Device, absent, trouble}
use Rattle.nut_server_spec.specs.machine.Machine.{acted, requested}
use Rattle.nut_server.specs.inside.Answers.{given}
use Rattle.nut_server.specs.inside.Decisions.{Answers, Decides, Grants, HandsOn, IsNextNumber, is_question, told}
use Rattle.nut_server.specs.inside.Effects.{Does, forced}
use Rattle.nut_server.specs.inside.Tasks.{entry_misfit, right_to, task_answer, task_ask, task_failure, task_misfit, task_request}
use Rattle.nut_server.specs.declared.changes.HandedOn.{HandedOn}
use Rattle.nut_server.specs.declared.changes.DriverTask.{DriverTask}
use Rattle.nut_server.specs.declared.changes.DriverTask.TheVariants as tasks
use Rattle.nut_server.specs.declared.decision.Decision.{Decision}
use Rattle.nut_server.specs.declared.effect.Effect.{Effect}
use Rattle.nut_server.specs.declared.effect.Effect.TheVariants as effects
use Rattle.nut_server.proofs.Acting.{act_idle, requested_none, update_at_same}
use Rattle.nut_server.proofs.Quiet.{IsQuiet, quiet_question}
use Rattle.nut_server_spec.specs.Numbering.{with_numbers}

-- A quiet answer to a line that changes nothing.
pub tells : (s : Scene) (d : Decision) (reply : Answer) (line : List ℕ) → given d.answer ≡ reply → d.effect ≡ effects.Nothing → IsQuiet reply → Answers s Blank reply d line
tells s d reply line is none quiet =
    (is, rw none (λ k. rw (quiet.0 k.logged_out, quiet.1 (with_numbers s.configuration.upses s.numbers) k.login) refl, λ supplies. refl, rw quiet.2 refl), rw none tt)

-- What only asks is none of the other requests.
pub only_asks : (request : Request) → (request ≡ requests.GetTracking → ⊥) → ((u v x : List ℕ) → request ≡ requests.SetVar u v x → ⊥)
    → ((on : Bool) → request ≡ requests.SetTracking on → ⊥) → ((u k : List ℕ) (x : Option (List ℕ)) → request ≡ requests.InstCmd u k x → ⊥)
    → ((x : List ℕ) → request ≡ requests.Username x → ⊥) → ((x : List ℕ) → request ≡ requests.Password x → ⊥) → ((u : List ℕ) → request ≡ requests.Login u → ⊥)
    → ((u : List ℕ) → request ≡ requests.Primary u → ⊥) → ((u : List ℕ) → request ≡ requests.Fsd u → ⊥) → (request ≡ requests.Logout → ⊥)
    → is_question request ≡ true
only_asks requests.GetTracking a b c d e f g h i j = absurd (a refl)
only_asks (requests.SetVar u v x) a b c d e f g h i j = absurd (b u v x refl)
only_asks (requests.SetTracking on) a b c d e f g h i j = absurd (c on refl)
only_asks (requests.InstCmd u k x) a b c d e f g h i j = absurd (d u k x refl)
only_asks (requests.Username x) a b c d e f g h i j = absurd (e x refl)
only_asks (requests.Password x) a b c d e f g h i j = absurd (f x refl)
only_asks (requests.Login u) a b c d e f g h i j = absurd (g u refl)
only_asks (requests.Primary u) a b c d e f g h i j = absurd (h u refl)
only_asks (requests.Fsd u) a b c d e f g h i j = absurd (i u refl)
only_asks requests.Logout a b c d e f g h i j = absurd (j refl)
only_asks request a b c d e f g h i j = refl

-- A request that only asks.
pub question : (s : Scene) (k : Caller) (request : Request) (d : Decision) (reply : Answer) (line : List ℕ) → is_question request ≡ true
    → reply ≡ told s request → given d.answer ≡ reply → d.effect ≡ effects.Nothing → Decides s k (Asks request) d line
question s k requests.GetTracking d reply line asks-only is given none = absurd (cc)
question s k (requests.SetVar ups variable value) d reply line asks-only is given none = absurd (cc)
question s k (requests.SetTracking on) d reply line asks-only is given none = absurd (cc)
question s k (requests.InstCmd ups command parameter) d reply line asks-only is given none = absurd (cc)
question s k (requests.Username name) d reply line asks-only is given none = absurd (cc)
question s k (requests.Password password) d reply line asks-only is given none = absurd (cc)
question s k (requests.Login ups) d reply line asks-only is given none = absurd (cc)
question s k (requests.Primary ups) d reply line asks-only is given none = absurd (cc)
question s k (requests.Fsd ups) d reply line asks-only is given none = absurd (cc)
question s k requests.Logout d reply line asks-only is given none = absurd (cc)
question s k request d reply line asks-only is given none = tells s d _ line (given ∙ is) none (quiet_question s request asks-only)

-- A request that changes nothing if it is refused.
abbrev pub IsRefusable : Scene → Command → Type 0
IsRefusable s command = (r : Refusal) (line : List ℕ) → Does s command (refused r) effects.Nothing line

-- A request that is granted or refused.
pub grants : (s : Scene) (k : Caller) (command : Command) (reply : Reply) (outcome : Result Effect Refusal) (d : Decision) (line : List ℕ)
    → MatchResult outcome (λ effect. (given d.answer ≡ Line reply) × (d.effect ≡ effect)) (λ r. (given d.answer ≡ refused r) × (d.effect ≡ effects.Nothing))
    → IsRefusable s command → Grants s k command reply outcome line → Decides s k command d line
grants s k command reply (Ok effect) d line made refusable granted = (made.0 ∙ sym granted.0, rw (made.1, granted.0) granted.1, rw made.1 granted.2)
grants s k command reply (Err r) d line made refusable is = (made.0 ∙ sym is, rw (made.1, is) (refusable r line), rw made.1 tt)

-- A request that is handed on to a driver or refused.
pub hands_on : (s : Scene) (k : Caller) (command : Command) (outcome : Result HandedOn Refusal) (d : Decision) (line : List ℕ)
    → MatchResult outcome (λ request. (given d.answer ≡ accepted request.number) × (d.effect ≡ effects.Ask request.ups request.number)) (λ r. (given d.answer ≡ refused r) × (d.effect ≡ effects.Nothing))
    → IsRefusable s command → HandsOn s k command outcome line → Decides s k command d line
hands_on s k command (Ok request) d line made refusable granted = (made.0 ∙ sym granted.0, rw (made.1, granted.0) granted.1, rw made.1 granted.2)
hands_on s k command (Err r) d line made refusable is = (made.0 ∙ sym is, rw (made.1, is) (refusable r line), rw made.1 tt)

-- A UPS stays as it is if nothing is forced and nothing asked.
pub at_rest : (d : Supply) → record d { device = record d.device { waits = requested None d.device } } ≡ d
at_rest d = ap (λ w. record d { device = record d.device { waits = w } }) (requested_none d.device)

-- ---- the requests that act on a UPS

pub refusable_task : (s : Scene) (ups : List ℕ) (task : DriverTask) → IsRefusable s (Asks (task_request ups task))
refusable_task s ups (tasks.Set variable value) r line =
    let command = Asks (requests.SetVar ups variable value) in
    (λ k. refl, λ supplies. sym (act_idle (target (with_numbers s.configuration.upses s.numbers) command) (acted command (refused r)) supplies at_rest), refl)
refusable_task s ups (tasks.Run name parameter) r line =
    let command = Asks (requests.InstCmd ups name parameter) in
    (λ k. refl, λ supplies. sym (act_idle (target (with_numbers s.configuration.upses s.numbers) command) (acted command (refused r)) supplies at_rest), refl)

pub refusable_fsd : (s : Scene) (ups : List ℕ) → IsRefusable s (Asks (requests.Fsd ups))
refusable_fsd s ups r line =
    let command = Asks (requests.Fsd ups) in
    (λ k. refl, λ supplies. sym (act_idle (target (with_numbers s.configuration.upses s.numbers) command) (acted command (refused r)) supplies at_rest), refl)

pub does_task : (s : Scene) (ups : List ℕ) (task : DriverTask) (u : ℕ) (number : Option ℕ) (line : List ℕ) → ups_number s ups ≡ Some u
    → line ≡ ask_line (task_ask task number) → IsNextNumber s number
    → Does s (Asks (task_request ups task)) (accepted number) (effects.Ask u number) line
does_task s ups (tasks.Set variable value) u None line there is next = (λ k. refl, λ supplies. rw (there, is) refl, next)
does_task s ups (tasks.Set variable value) u (Some number) line there is next = (λ k. refl, λ supplies. rw (there, is) refl, next)
does_task s ups (tasks.Run name parameter) u None line there is next = (λ k. refl, λ supplies. rw (there, is) refl, next)
does_task s ups (tasks.Run name parameter) u (Some number) line there is next = (λ k. refl, λ supplies. rw (there, is) refl, next)

pub forces : (s : Scene) (ups : List ℕ) (u : ℕ) (line : List ℕ) → ups_number s ups ≡ Some u
    → Does s (Asks (requests.Fsd ups)) (Line replies.FsdSet) (effects.Force u) line
forces s ups u line number = (
  λ k. refl,
  λ supplies. rw number (update_at_same u forced (acted (Asks (requests.Fsd ups)) (Line replies.FsdSet)) supplies
      (λ d. ap (λ w. record d { device = record d.device { forced = true; waits = w } }) (sym (requested_none d.device)))),
  refl,
)

-- the answer to a task, by the tests of the user and the UPS
pub asked_for : (s : Scene) (k : Caller) (ups : List ℕ) (task : DriverTask)
    → answer_request s k (task_request ups task) ≡ with_right s k (right_to task) ups (λ u. on_data s u (task_answer s k task))
asked_for s k ups (tasks.Set variable value) = refl
asked_for s k ups (tasks.Run name parameter) = refl

-- the answer to a task, by the tests of the task
pub task_tested : (s : Scene) (k : Caller) (task : DriverTask) (d : Device)
    → task_answer s k task d ≡ unless (task_misfit task d) (handed_on (task_failure task) s k (task_ask task) d)
task_tested s k (tasks.Set name value) d = by_entry (variable d.table name) where
  by_entry : (o : Option Entry) → require VarNotSupported o (λ v. unless (misfit v value) (handed_on SetFailed s k (asks.Set name value) d))
      ≡ unless (entry_misfit value o) (handed_on SetFailed s k (asks.Set name value) d)
  by_entry None = refl
  by_entry (Some v) = refl
task_tested s k (tasks.Run name parameter) d = by_test (has_command d.table name) where
  by_test : (b : Bool) → check CmdNotSupported b (unless (parameter_misfit parameter) (handed_on InstCmdFailed s k (asks.InstCmd name parameter) d))
      ≡ unless (if b then parameter_misfit parameter else Some CmdNotSupported) (handed_on InstCmdFailed s k (asks.InstCmd name parameter) d)
  by_test true = refl
  by_test false = refl

-- the answer to a task that the UPS can do
pub task_handed : (s : Scene) (k : Caller) (task : DriverTask) (d : Device) (failure : Refusal) → failure ≡ task_failure task → task_misfit task d ≡ None
    → task_answer s k task d ≡ handed_on failure s k (task_ask task) d
task_handed s k task d failure is none =
    task_tested s k task d ∙ ap (λ t. unless t (handed_on (task_failure task) s k (task_ask task) d)) none ∙ ap (λ r. handed_on r s k (task_ask task) d) (sym is)

-- the answer about a UPS whose data can be relied on
pub on_told : (s : Scene) (u : ℕ) (d : Device) (next : Device → Answer) (reply : Answer) → device_at s u ≡ d → trouble s.configuration.max_age s.clock (device_at s u) ≡ None → next d ≡ reply
    → on_data s u next ≡ reply
on_told s u d next reply there none is = ap (λ t. unless t (next (device_at s u))) none ∙ ap next there ∙ is

-- If there is no trouble with a UPS, its driver is connected.
pub connected : (max_age clock : ℕ) (d : Device) → trouble max_age clock d ≡ None → d.connected ≡ true
connected max_age clock d none = elim (cases_Bool d.connected) [ inl e ↦ e | inr e ↦ absurd (gone e) ] where
  gone : d.connected ≡ false → ⊥
  gone e = let some : trouble max_age clock d ≡ Some DriverNotConnected = rw e refl in let both : Some DriverNotConnected ≡ None = sym some ∙ none in cc

-- If the driver of a UPS is connected, the UPS exists.
pub is_there : (ds : List Supply) (u : ℕ) → (slice_index_or (map (λ d. d.device) ds) u absent).connected ≡ true → u < length ds
is_there [] u is = absurd (cc)
is_there (d ∷ ds) zero is = omega arith
is_there (d ∷ ds) (suc u) is = omega (arith, is_there ds u is)
