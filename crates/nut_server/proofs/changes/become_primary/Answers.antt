use Rattle.std.proofs.Common.{refl}
use Rattle.std.proofs.lemmas.Result.{err_from_is_err_and}
use Rattle.nut_proto.specs.declared.reply.Reply.TheVariants as replies
use Rattle.nut_server_spec.specs.Answer.{Line}
use Rattle.nut_server.proofs.changes.become_primary.Goals as goal

pub returns-in_err-authorize : goal.returns-in_err-authorize
returns-in_err-authorize c = λ line.
    let error = err_from_is_err_and c.from_residual.result c.from_residual.ensures.1 in
    rw (error.1, error.2) (c.in_err-authorize.ensures (λ u. Line replies.Accepted))

pub returns : goal.returns
returns c = λ line. (c.in_ok-authorize.ensures.0 (λ u. Line replies.Accepted), (λ k. refl, λ supplies. refl, refl), tt)
