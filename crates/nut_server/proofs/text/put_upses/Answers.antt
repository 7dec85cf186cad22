use Rattle.std.proofs.Common.{sym, ◌∙◌, ap, ℕ, List, arith}
use Rattle.nut_proto.specs.declared.reply.Reply.TheVariants as replies
use Rattle.nut_proto.specs.Replies.{reply_line}
use Rattle.nut_server_spec.specs.Configuration.{Ups}
use Rattle.nut_server.proofs.RowTexts.{row_behind, within_some}
use Rattle.nut_server.proofs.text.put_upses.Goals.{in-Some+in_ok-put_ups, in_default}
use Rattle.nut_server.proofs.text.put_upses.Goals as goal

pub loop-u-preserved : goal.loop-u-preserved
loop-u-preserved c =
    let row : Ups → List ℕ = λ ups. reply_line (replies.Ups ups.name ups.description) in
    elim c.match-ups_at.branch [
      | in-Some+in_ok-put_ups w ↦ row_behind row c.args.config.now.upses c.loop-u.u w.in-Some.ups _ _ _ (sym c.ups_at.ensures ∙ w.in-Some.is)
          c.loop-u.invariant (ap (λ o. o.items) w.out-is ∙ w.in_ok-put_ups.ensures)
      | in_default w ↦ absurd (within_some c.args.config.now.upses c.loop-u.u (omega (arith, c.loop-u-test.true, c.number_of_upses-u-end.ensures.len)) (sym c.ups_at.ensures ∙ w.in_default.is))
    ]
