use Rattle.std.proofs.Common.{rules, refl, is_none, ℕ}
use Rattle.std.proofs.lemmas.Result.{err_from_is_err_and}
use Rattle.nut_proto.specs.declared.refusal.Refusal.TheVariants as refusals
use Rattle.nut_proto.specs.declared.reply.Reply.TheVariants as replies
use Rattle.nut_server_spec.specs.Answer.{Answer, Line, check}
use Rattle.nut_server.proofs.changes.log_in.Goals as goal

pub returns-in_err-u : goal.returns-in_err-u
returns-in_err-u c = λ line.
    let next : ℕ → Answer = λ u. check refusals.AlreadyLoggedIn (is_none c.args.caller.now.login) (Line replies.Accepted) in
    let error = err_from_is_err_and c.from_residual.result c.from_residual.ensures.1 in
    rw (error.1, error.2) (c.in_err-u.ensures next)

pub returns-then-is_some : goal.returns-then-is_some
returns-then-is_some c = λ line.
    let next : ℕ → Answer = λ u. check refusals.AlreadyLoggedIn (is_none c.args.caller.now.login) (Line replies.Accepted) in
    rw (c.in_ok-u.ensures.0 next) (search rules)

pub returns : goal.returns
returns c = λ line.
    let next : ℕ → Answer = λ u. check refusals.AlreadyLoggedIn (is_none c.args.caller.now.login) (Line replies.Accepted) in
    (rw (c.in_ok-u.ensures.0 next) (search rules), (λ k. rw c.in_ok-u.ensures.1 refl, λ supplies. refl, refl), tt)
