use Rattle.std.proofs.Common.{◌≡◌, ◌∙◌, ap, refl, sym, ℕ, Option, true, false}
use Rattle.std.proofs.lemmas.Result.{err_from_is_err_and}
use Rattle.nut_proto.specs.DriverAsks.{ask_line}
use Rattle.nut_server_spec.specs.Answer.{Answer, accepted, check, device_at, handed_on, on_data, unless, with_right}
use Rattle.nut_server_spec.specs.Device.{fits}
use Rattle.nut_server_spec.specs.machine.Machine.{caller_of}
use Rattle.nut_server.specs.inside.Tasks.{task_answer, task_ask, task_failure}
use Rattle.nut_server.proofs.Deciding.{asked_for, connected, does_task, on_told, task_handed, task_tested}
use Rattle.nut_server.proofs.changes.ask_driver.Goals as goal

pub returns-in_err-u : goal.returns-in_err-u
returns-in_err-u c =
    let s = c.args.scene.now in
    let k = caller_of c.args.caller.now in
    let next : ℕ → Answer = λ u. on_data s u (task_answer s k c.args.task) in
    let error = err_from_is_err_and c.from_residual.result c.from_residual.ensures.1 in
    rw (error.1, error.2) (asked_for s k c.args.ups.now c.args.task ∙ ap (λ right. with_right s k right c.args.ups.now next) (sym c.right.ensures) ∙ c.in_err-u.ensures next)

pub returns-in_err-device : goal.returns-in_err-device
returns-in_err-device c =
    let s = c.args.scene.now in
    let k = caller_of c.args.caller.now in
    let u = c.in_ok-u.u in
    let asked = task_answer s k c.args.task in
    let next : ℕ → Answer = λ u. on_data s u asked in
    let here = asked_for s k c.args.ups.now c.args.task ∙ ap (λ right. with_right s k right c.args.ups.now next) (sym c.right.ensures) ∙ c.in_ok-u.ensures.0 next in
    let error = err_from_is_err_and c.from_residual-in_err-device.result c.from_residual-in_err-device.ensures.1 in
    rw (error.1, error.2) (here ∙ ap (λ t. unless t (asked (device_at s u))) c.in_err-device.ensures)

pub returns-in-Some : goal.returns-in-Some
returns-in-Some c =
    let s = c.args.scene.now in
    let k = caller_of c.args.caller.now in
    let d = c.in_ok-device.device.now.device in
    let asked = task_answer s k c.args.task in
    let next : ℕ → Answer = λ u. on_data s u asked in
    let here = asked_for s k c.args.ups.now c.args.task ∙ ap (λ right. with_right s k right c.args.ups.now next) (sym c.right.ensures) ∙ c.in_ok-u.ensures.0 next in
    here ∙ on_told s c.in_ok-u.u d asked _ c.in_ok-device.ensures.0 c.in_ok-device.ensures.1
    (task_tested s k c.args.task d ∙ ap (λ t. unless t (handed_on (task_failure c.args.task) s k (task_ask c.args.task) d)) (sym c.misfit.ensures ∙ c.in-Some.is))

pub returns-in_err-number : goal.returns-in_err-number
returns-in_err-number c =
    let s = c.args.scene.now in
    let k = caller_of c.args.caller.now in
    let d = c.in_ok-device.device.now.device in
    let asked = task_answer s k c.args.task in
    let next : ℕ → Answer = λ u. on_data s u asked in
    let fitting : Option ℕ → Answer = λ number. check c.failure-failure.result (fits (ask_line (task_ask c.args.task number)) d) (accepted number) in
    let here = asked_for s k c.args.ups.now c.args.task ∙ ap (λ right. with_right s k right c.args.ups.now next) (sym c.right.ensures) ∙ c.in_ok-u.ensures.0 next in
    let handed = task_handed s k c.args.task d c.failure-failure.result c.failure-failure.ensures (sym c.misfit.ensures ∙ c.in_default.is) in
    let error = err_from_is_err_and c.from_residual-in_err-number.result c.from_residual-in_err-number.ensures.1 in
    let refused_by = c.in_err-number.ensures.answer fitting in
    rw (error.1, error.2, refused_by.0) (here ∙ on_told s c.in_ok-u.u d asked _ c.in_ok-device.ensures.0 c.in_ok-device.ensures.1 (handed ∙ refused_by.1))

pub returns-then-not-put_ask : goal.returns-then-not-put_ask
returns-then-not-put_ask c =
    let s = c.args.scene.now in
    let k = caller_of c.args.caller.now in
    let d = c.in_ok-device.device.now.device in
    let asked = task_answer s k c.args.task in
    let next : ℕ → Answer = λ u. on_data s u asked in
    let fitting : Option ℕ → Answer = λ number. check c.failure-failure.result (fits (ask_line (task_ask c.args.task number)) d) (accepted number) in
    let here = asked_for s k c.args.ups.now c.args.task ∙ ap (λ right. with_right s k right c.args.ups.now next) (sym c.right.ensures) ∙ c.in_ok-u.ensures.0 next in
    let handed = task_handed s k c.args.task d c.failure-failure.result c.failure-failure.ensures (sym c.misfit.ensures ∙ c.in_default.is) in
    let full : fits (ask_line (task_ask c.args.task c.in_ok-number.number)) d ≡ false = ap (λ ask. fits (ask_line ask) d) (sym c.ask.ensures) ∙ sym c.put_ask.ensures.value ∙ c.if-not-put_ask.true in
    here ∙ on_told s c.in_ok-u.u d asked _ c.in_ok-device.ensures.0 c.in_ok-device.ensures.1 (handed ∙ c.in_ok-number.ensures.answer fitting ∙ rw full refl)

pub returns : goal.returns
returns c =
    let s = c.args.scene.now in
    let k = caller_of c.args.caller.now in
    let u = c.in_ok-u.u in
    let d = c.in_ok-device.device.now.device in
    let line = c.put_ask.new.line.items in
    let asked = task_answer s k c.args.task in
    let next : ℕ → Answer = λ u. on_data s u asked in
    let fitting : Option ℕ → Answer = λ number. check c.failure-failure.result (fits (ask_line (task_ask c.args.task number)) d) (accepted number) in
    let here = asked_for s k c.args.ups.now c.args.task ∙ ap (λ right. with_right s k right c.args.ups.now next) (sym c.right.ensures) ∙ c.in_ok-u.ensures.0 next in
    let handed = task_handed s k c.args.task d c.failure-failure.result c.failure-failure.ensures (sym c.misfit.ensures ∙ c.in_default.is) in
    let fit : fits (ask_line (task_ask c.args.task c.in_ok-number.number)) d ≡ true = ap (λ ask. fits (ask_line ask) d) (sym c.ask.ensures) ∙ sym c.put_ask.ensures.value ∙ c.if-not-put_ask.false in
    let is : line ≡ ask_line (task_ask c.args.task c.in_ok-number.number) = (rw c.if-not-put_ask.false at c.put_ask.ensures.put) ∙ ap ask_line c.ask.ensures in (
      here ∙ on_told s u d asked _ c.in_ok-device.ensures.0 c.in_ok-device.ensures.1 (handed ∙ c.in_ok-number.ensures.answer fitting ∙ rw fit refl),
      does_task s c.args.ups.now c.args.task u c.in_ok-number.number line c.in_ok-u.ensures.1 is c.in_ok-number.ensures.next,
      (connected s.configuration.max_age s.clock (device_at s u) c.in_ok-device.ensures.1, ap (fits line) c.in_ok-device.ensures.0 ∙ ap (λ line. fits line d) is ∙ fit),
    )
