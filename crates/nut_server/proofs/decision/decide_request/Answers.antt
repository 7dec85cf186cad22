use Rattle.std.proofs.Common.{◌≡◌, refl, rules, subst}
use Rattle.nut_proto.specs.declared.reply.Reply.TheVariants as replies
use Rattle.nut_proto.specs.declared.request.Request.TheVariants as requests
use Rattle.nut_server_spec.specs.Command.{Asks}
use Rattle.nut_server_spec.specs.machine.Machine.{caller_of}
use Rattle.nut_server.specs.inside.Answers.{outcome}
use Rattle.nut_server.specs.inside.Decisions.{Grants}
use Rattle.nut_server.specs.inside.Tasks.{task_request}
use Rattle.nut_server.specs.declared.changes.DriverTask.TheVariants as tasks
use Rattle.nut_server.proofs.Deciding.{only_asks, question, grants, hands_on, refusable_task, refusable_fsd}
use Rattle.nut_server.proofs.decision.decide_request.Goals as goal

pub returns-in_default : goal.returns-in_default
returns-in_default c =
    let is = c.in_default in
    let asks-only = only_asks c.args.request.now is.not-GetTracking is.not-SetVar is.not-SetTracking is.not-InstCmd is.not-Username is.not-Password is.not-Login is.not-Primary is.not-Fsd is.not-Logout in
    question c.args.scene.now (caller_of c.args.caller.now) c.args.request.now c.tell.result (outcome c.answer_question.result) c.args.line.now.items
    asks-only c.answer_question.ensures c.tell.ensures.answer c.tell.ensures.effect

pub returns-in-SetVar : goal.returns-in-SetVar
returns-in-SetVar c =
    let task = tasks.Set c.copy.result c.copy-in-SetVar.result in
    rw (c.in-SetVar.is, ← c.as_bytes.ensures, ← c.copy.ensures, ← c.copy-in-SetVar.ensures)
    (hands_on c.args.scene.now (caller_of c.args.caller.now) (Asks (task_request c.as_bytes.result.now task)) c.ask_driver.result c.hand_on.result c.ask_driver.new.line.items c.hand_on.ensures (refusable_task c.args.scene.now c.as_bytes.result.now task) c.ask_driver.ensures)

pub returns-in-SetTracking : goal.returns-in-SetTracking
returns-in-SetTracking c =
    let s = c.args.scene.now in
    let k = caller_of c.args.caller.now in
    let line = c.args.line.now.items in
    rw c.in-SetTracking.is (grants s k (Asks (requests.SetTracking c.in-SetTracking.on)) replies.Accepted c.switch_tracking.result c.grant.result line c.grant.ensures (λ r line. (λ k. refl, λ supplies. refl, refl)) (c.switch_tracking.ensures s line))

pub returns-in-InstCmd : goal.returns-in-InstCmd
returns-in-InstCmd c =
    let same : c.map.result ≡ c.in-InstCmd.parameter = search rules in
    let task = tasks.Run c.copy-in-InstCmd.result c.map.result in
    rw (c.in-InstCmd.is, ← c.as_bytes-in-InstCmd.ensures, ← c.copy-in-InstCmd.ensures, ← same)
    (hands_on c.args.scene.now (caller_of c.args.caller.now) (Asks (task_request c.as_bytes-in-InstCmd.result.now task)) c.ask_driver-in-InstCmd.result c.hand_on-in-InstCmd.result c.ask_driver-in-InstCmd.new.line.items c.hand_on-in-InstCmd.ensures (refusable_task c.args.scene.now c.as_bytes-in-InstCmd.result.now task) c.ask_driver-in-InstCmd.ensures)

pub returns-in-Username : goal.returns-in-Username
returns-in-Username c =
    let s = c.args.scene.now in
    let k = caller_of c.args.caller.now in
    let line = c.args.line.now.items in
    let granted = subst (λ word. Grants s k (Asks (requests.Username word)) replies.Accepted c.give_user.result line) c.as_bytes-in-Username.ensures (c.give_user.ensures s line) in
    rw c.in-Username.is (grants s k (Asks (requests.Username c.in-Username.name)) replies.Accepted c.give_user.result c.grant-in-Username.result line c.grant-in-Username.ensures (λ r line. (λ k. refl, λ supplies. refl, refl)) granted)

pub returns-in-Password : goal.returns-in-Password
returns-in-Password c =
    let s = c.args.scene.now in
    let k = caller_of c.args.caller.now in
    let line = c.args.line.now.items in
    let granted = subst (λ word. Grants s k (Asks (requests.Password word)) replies.Accepted c.give_password.result line) c.as_bytes-in-Password.ensures (c.give_password.ensures s line) in
    rw c.in-Password.is (grants s k (Asks (requests.Password c.in-Password.password)) replies.Accepted c.give_password.result c.grant-in-Password.result line c.grant-in-Password.ensures (λ r line. (λ k. refl, λ supplies. refl, refl)) granted)

pub returns-in-Login : goal.returns-in-Login
returns-in-Login c =
    let s = c.args.scene.now in
    let k = caller_of c.args.caller.now in
    let line = c.args.line.now.items in
    let granted = subst (λ word. Grants s k (Asks (requests.Login word)) replies.Accepted c.log_in.result line) c.as_bytes-in-Login.ensures (c.log_in.ensures line) in
    rw c.in-Login.is (grants s k (Asks (requests.Login c.in-Login.ups)) replies.Accepted c.log_in.result c.grant-in-Login.result line c.grant-in-Login.ensures (λ r line. (λ k. refl, λ supplies. refl, refl)) granted)

pub returns-in-Primary : goal.returns-in-Primary
returns-in-Primary c =
    rw (c.in-Primary.is, ← c.as_bytes-in-Primary.ensures)
    (grants c.args.scene.now (caller_of c.args.caller.now) (Asks (requests.Primary c.as_bytes-in-Primary.result.now)) replies.Accepted c.become_primary.result c.grant-in-Primary.result c.args.line.now.items c.grant-in-Primary.ensures (λ r line. (λ k. refl, λ supplies. refl, refl)) (c.become_primary.ensures c.args.line.now.items))

pub returns-in-Fsd : goal.returns-in-Fsd
returns-in-Fsd c =
    rw (c.in-Fsd.is, ← c.as_bytes-in-Fsd.ensures)
    (grants c.args.scene.now (caller_of c.args.caller.now) (Asks (requests.Fsd c.as_bytes-in-Fsd.result.now)) replies.FsdSet c.force.result c.grant-in-Fsd.result c.args.line.now.items c.grant-in-Fsd.ensures (refusable_fsd c.args.scene.now c.as_bytes-in-Fsd.result.now) (c.force.ensures c.args.line.now.items))
