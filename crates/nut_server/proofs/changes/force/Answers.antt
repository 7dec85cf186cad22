use Rattle.std.proofs.lemmas.Result.{err_from_is_err_and}
use Rattle.nut_proto.specs.declared.reply.Reply.TheVariants as replies
use Rattle.nut_server_spec.specs.Answer.{Line}
use Rattle.nut_server.proofs.Deciding.{forces}
use Rattle.nut_server.proofs.changes.force.Goals as goal

pub returns-in_err-u : goal.returns-in_err-u
returns-in_err-u c = λ line.
    let error = err_from_is_err_and c.from_residual.result c.from_residual.ensures.1 in
    rw (error.1, error.2) (c.in_err-u.ensures (λ u. Line replies.FsdSet))

pub returns : goal.returns
returns c = λ line. (
  c.in_ok-u.ensures.0 (λ u. Line replies.FsdSet),
  forces c.args.scene.now c.args.ups.now c.in_ok-u.u line c.in_ok-u.ensures.1,
  c.requires c.args.ups.now c.in_ok-u.u c.in_ok-u.ensures.1,
)
